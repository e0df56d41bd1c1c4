use Rattle.gp_command_line.proofs.arguments.teqd.Goals as goal

pub returns : goal.returns
returns c = c.repeated.ensures
