use Rattle.std.proofs.Common.{◌≡◌, ◌++◌, take}
use Rattle.std.specs.List.{flat_map}
use Rattle.gp_summary.specs.Text.{refusal_told}
use Rattle.gp_summary.proofs.port.push_refusals.Given as goal

abbrev pub invariant-refusals : goal.invariant-refusals
invariant-refusals l = l.out.items ≡ l.fn.out.items ++ flat_map (refusal_told l.form l.counts) (take l.refusal-index l.refusals)
