use Rattle.gp_command_line.proofs.arguments.at_least.Goals as goal

pub returns : goal.returns
returns c = c.number.ensures
