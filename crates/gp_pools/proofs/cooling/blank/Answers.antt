use Rattle.std.proofs.Common.{◌<◌, ℕ, inl, inr, replicate, sym, subst, lit<}
use Rattle.std.proofs.lemmas.Bool.{cases_lt}
use Rattle.std.proofs.lemmas.List.{get_or-replicate, get_or_past}
use Rattle.gp_pools.proofs.cooling.blank.Goals as goal

pub returns : goal.returns
returns c place =
    let Small : ℕ → Type 0 = λ k. k < 65536 in
    elim (cases_lt place 256) [
      | inl low ↦ subst Small (sym (get_or-replicate 256 place 0 0 low)) (lit< tt)
      | inr high ↦ subst Small (sym (get_or_past (replicate 256 0) place 0 high)) (lit< tt)
    ]
