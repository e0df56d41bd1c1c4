use Rattle.gp_census.proofs.Allocs.{Written}
use Rattle.gp_census.proofs.pieces.push_allocs_of.Given as goal

-- the Alloc-IDs so far are written
abbrev pub invariant-loop-alloc : goal.invariant-loop-alloc
invariant-loop-alloc l = Written l.watch l.onu l.first l.other l.fn.out.items l.alloc l.out.items l.some
