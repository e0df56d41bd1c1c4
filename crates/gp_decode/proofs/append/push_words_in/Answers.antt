use Rattle.gp_decode.proofs.append.push_words_in.Goals as goal

pub returns-then-upstream-clause-fault : goal.returns-then-upstream-clause-fault
returns-then-upstream-clause-fault c = rw c.if-upstream.true c.push_up_words.ensures.fault

pub returns-then-upstream-clause-room : goal.returns-then-upstream-clause-room
returns-then-upstream-clause-room c = rw c.if-upstream.true c.push_up_words.ensures.room

pub returns-then-upstream-clause-part : goal.returns-then-upstream-clause-part
returns-then-upstream-clause-part c = rw c.if-upstream.true c.push_up_words.ensures.part

pub returns-else-upstream-clause-fault : goal.returns-else-upstream-clause-fault
returns-else-upstream-clause-fault c = rw c.if-upstream.false c.push_down_words.ensures.fault

pub returns-else-upstream-clause-room : goal.returns-else-upstream-clause-room
returns-else-upstream-clause-room c = rw c.if-upstream.false c.push_down_words.ensures.room

pub returns-else-upstream-clause-part : goal.returns-else-upstream-clause-part
returns-else-upstream-clause-part c = rw c.if-upstream.false c.push_down_words.ensures.part
