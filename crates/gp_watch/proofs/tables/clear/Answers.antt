use Rattle.std.proofs.Common.{length, arith, inl, inr, None}
use Rattle.std.proofs.lemmas.Bool.{cases_lt}
use Rattle.std.proofs.lemmas.List.{get_or_past}
use Rattle.gp_watch.proofs.tables.clear.Goals as goal

pub returns : goal.returns
returns c k =
    elim (cases_lt k (length c.loop-place.places)) [
      | inl low ↦ c.loop-place.invariant k (omega arith)
      | inr past ↦ get_or_past c.loop-place.places k None past
    ]
