use Rattle.std.proofs.Common.{◌≡◌, ◌++◌, codes, take}
use Rattle.std.specs.List.{flat_map}
use Rattle.gp_summary.specs.Text.{alloc_object}
use Rattle.gp_summary.proofs.unit.push_slots_object.Given as goal

abbrev pub invariant-slots : goal.invariant-slots
invariant-slots l = l.out.items ≡ l.fn.out.items ++ flat_map (alloc_object (codes ",")) (take l.slot-index l.slots)
