use Rattle.gp_trace.proofs.AllocsLemmas.{WrittenSoFar}
use Rattle.gp_trace.proofs.allocs.write_allocs.Given as goal

abbrev pub invariant-loop-place : goal.invariant-loop-place
invariant-loop-place l = WrittenSoFar l.slots l.place l.is_empty l.fn.line l.fn.end l.line l.at
