use Rattle.std.proofs.Common.{subst}
use Rattle.std.specs.List.Sorted.{IsPermutation}
use Rattle.gp_machine.proofs.Distinct.{distinct_by_order}
use Rattle.gp_machine.proofs.admitted.are_distinct.Goals as goal

pub returns : goal.returns
returns c = distinct_by_order c.args.serials.now c.sort_unstable.new.self c.neighbours_differ.result (subst (λ xs. IsPermutation xs c.sort_unstable.new.self) c.copy_from_slice.ensures.after c.sort_unstable.ensures.permutation) c.sort_unstable.ensures.sorted c.neighbours_differ.ensures
