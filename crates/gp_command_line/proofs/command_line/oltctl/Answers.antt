use Rattle.std.proofs.Common.{rules}
use Rattle.gp_command_line.specs.CommandLine.{oltctl}
use Rattle.gp_command_line.proofs.command_line.oltctl.Goals as goal

pub returns : goal.returns
unfolding oltctl
returns c = record { is = search rules; local = search rules }
