use Rattle.gp_command_line.proofs.arguments.in_words.Goals as goal

pub returns : goal.returns
returns c = c.flag.ensures
