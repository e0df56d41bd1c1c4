use Rattle.gp_lines.proofs.turn.parse_turn.Goals as goal

pub returns-clause-asked : goal.returns-clause-asked
returns-clause-asked c = λ asked. rw c.asked_in.ensures (c.turns_are_read.ensures.asked c.args.mask c.args.line.now asked)

pub returns-clause-fault : goal.returns-clause-fault
returns-clause-fault c = λ f. rw c.asked_in.ensures (c.turns_are_read.ensures.fault c.args.mask c.args.line.now f)
