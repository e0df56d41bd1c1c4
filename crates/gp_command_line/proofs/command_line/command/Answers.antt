use Rattle.gp_command_line.specs.CommandLine.{oltctl, oltctl_command}
use Rattle.gp_command_line.proofs.command_line.command.Goals as goal

pub returns : goal.returns
unfolding oltctl_command
returns c = c.with_words.ensures _ (c.in_ok-logs.ensures _ (c.in_ok-scripts.ensures oltctl c.oltctl.ensures))
