use Rattle.gp_command_line.proofs.arguments.trace.Goals as goal

pub returns : goal.returns
returns c = c.positional.ensures
