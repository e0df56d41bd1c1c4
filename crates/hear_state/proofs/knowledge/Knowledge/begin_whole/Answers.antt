use Rattle.hear_state.specs.declared.facts.Sure.TheVariants as sure
use Rattle.hear_state.proofs.Beginning.{same_whole, whole_first, whole_others}
use Rattle.hear_state.proofs.knowledge.Knowledge.begin_whole.Goals as goal

pub invariant_of-result : goal.invariant_of-result
invariant_of-result c = rw (c.in_ok-begin.ensures, c.new.ensures, c.in_ok-begin_whole.ensures) (whole_first whole_others sure.No tt tt)

pub returns-clause-knows : goal.returns-clause-knows
returns-clause-knows c = rw (c.in_ok-begin.ensures, c.new.ensures, c.in_ok-begin_whole.ensures) same_whole
