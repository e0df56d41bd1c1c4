use Rattle.gp_command_line.proofs.arguments.strict.Goals as goal

pub returns : goal.returns
returns c = c.flag.ensures
