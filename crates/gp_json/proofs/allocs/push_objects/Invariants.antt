use Rattle.std.proofs.Common.{◌≡◌, ◌≤◌, ◌++◌, length}
use Rattle.gp_json.specs.Allocs.{alloc_objects, split_allocs}
use Rattle.gp_json.proofs.allocs.push_objects.Given as goal

abbrev pub invariant-parts : goal.invariant-parts
invariant-parts l =
    (length l.rest ≤ length l.text) × (l.out ++ alloc_objects (split_allocs l.rest) ≡ l.fn.out ++ alloc_objects (split_allocs l.text))

abbrev pub decreases-parts : goal.decreases-parts
decreases-parts l = length l.rest
