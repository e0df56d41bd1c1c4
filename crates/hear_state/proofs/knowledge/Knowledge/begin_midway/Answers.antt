use Rattle.hear_state.specs.declared.facts.Sure.TheVariants as sure
use Rattle.hear_state.specs.Index.{unknown_serial}
use Rattle.hear_state.proofs.Beginning.{same_midway, whole_first}
use Rattle.hear_state.proofs.knowledge.Knowledge.begin_midway.Goals as goal

pub invariant_of-result : goal.invariant_of-result
invariant_of-result c = rw (c.in_ok-begin.ensures, c.new.ensures, c.in_ok-begin_midway.ensures) (whole_first unknown_serial sure.Unsure tt tt)

pub returns-clause-knows : goal.returns-clause-knows
returns-clause-knows c = rw (c.in_ok-begin.ensures, c.new.ensures, c.in_ok-begin_midway.ensures) same_midway
