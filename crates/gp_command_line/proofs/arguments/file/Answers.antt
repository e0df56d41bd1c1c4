use Rattle.gp_command_line.proofs.arguments.file.Goals as goal

pub returns : goal.returns
returns c = c.positional.ensures
