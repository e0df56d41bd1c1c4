use Rattle.gp_command_line.proofs.arguments.side.Goals as goal

pub returns : goal.returns
returns c = c.choice.ensures
