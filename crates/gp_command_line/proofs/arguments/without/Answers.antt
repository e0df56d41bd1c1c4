use Rattle.gp_command_line.proofs.arguments.without.Goals as goal

pub returns : goal.returns
returns c = c.repeated.ensures
