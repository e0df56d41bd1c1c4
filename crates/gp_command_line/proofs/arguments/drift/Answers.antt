use Rattle.gp_command_line.proofs.arguments.drift.Goals as goal

pub returns : goal.returns
returns c = c.number.ensures
