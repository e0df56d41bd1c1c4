-- A name that no column before this one has.
use Rattle.std.proofs.Common.{◌≡◌, ℕ, suc, ◌+◌, ◌<◌, false, List, ◌⊎◌, inl, inr, refl, sym, subst, arith}
use Rattle.std.proofs.lemmas.Bool.{cases_lt}
use Rattle.line_columns.specs.declared.columns.Separator.{Separator}
use Rattle.line_columns.specs.Heading.{is_named}

pub none_more : (separator : Separator) (name heading : List ℕ) (place more : ℕ) → more ≡ place + 1 → ((other : ℕ) → other < place → is_named separator name heading other ≡ false)
    → is_named separator name heading place ≡ false → (other : ℕ) → other < more → is_named separator name heading other ≡ false
none_more separator name heading place more one before here other less =
    elim (cases_lt other place) [
      | inl within ↦ before other within
      | inr behind ↦ subst (λ (n : ℕ). is_named separator name heading n ≡ false) (omega (arith, one, less, behind)) here
    ]
