use Rattle.gp_command_line.proofs.arguments.form.Goals as goal

pub returns : goal.returns
returns c = c.format.ensures
