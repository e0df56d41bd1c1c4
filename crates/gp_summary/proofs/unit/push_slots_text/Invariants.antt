use Rattle.std.proofs.Common.{◌≡◌, ◌++◌, take}
use Rattle.std.specs.List.{flat_map}
use Rattle.gp_summary.specs.Text.{alloc_text}
use Rattle.gp_summary.proofs.unit.push_slots_text.Given as goal

abbrev pub invariant-slots : goal.invariant-slots
invariant-slots l = l.out.items ≡ l.fn.out.items ++ flat_map alloc_text (take l.slot-index l.slots)
