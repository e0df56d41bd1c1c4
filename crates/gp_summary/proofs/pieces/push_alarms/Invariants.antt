use Rattle.std.proofs.Common.{◌≡◌, ◌++◌, take}
use Rattle.std.specs.List.{flat_map}
use Rattle.gp_summary.specs.Text.{alarm_told}
use Rattle.gp_summary.proofs.pieces.push_alarms.Given as goal

abbrev pub invariant-kinds : goal.invariant-kinds
invariant-kinds l = l.out.items ≡ l.fn.out.items ++ flat_map (alarm_told l.form l.counts) (take l.kind-index l.kinds)
