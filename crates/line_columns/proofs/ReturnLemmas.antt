-- A text without a carriage return at its end.
use Rattle.std.proofs.Common.{◌≡◌, ℕ, ◌==◌, true, List, [], ◌∷◌, ◌++◌, codes, refl, ap, inl, inr, arith}
use Rattle.std.proofs.lemmas.Bool.{cases_Bool}
use Rattle.std.proofs.lemmas.Bool.Decides.{nat_tests}
use Rattle.line_columns.specs.Layout.{without_return}

-- a carriage return at the end is dropped
pub return_dropped : (text : List ℕ) → without_return (text ++ codes "\r") ≡ text
return_dropped [] = refl
return_dropped (octet ∷ []) = refl
return_dropped (octet ∷ next ∷ rest) = ap (λ (t : List ℕ). octet ∷ t) (return_dropped (next ∷ rest))

is_return : (octet : ℕ) → (octet == 13) ≡ true → octet ∷ [] ≡ [] ++ codes "\r"
is_return octet h = let same : octet ≡ 13 = grind (arith, nat_tests, h) in ap (λ (o : ℕ). o ∷ []) same

-- with none there, nothing is
pub return_kept : (text : List ℕ) → ((front : List ℕ) → text ≡ front ++ codes "\r" → ⊥) → without_return text ≡ text
return_kept [] none = refl
return_kept (octet ∷ []) none =
    elim (cases_Bool (octet == 13)) [
      | inl same ↦ absurd (none [] (is_return octet same))
      | inr other ↦ rw other refl
    ]
return_kept (octet ∷ next ∷ rest) none =
    ap (λ (t : List ℕ). octet ∷ t) (return_kept (next ∷ rest) (λ front e. none (octet ∷ front) (ap (λ (t : List ℕ). octet ∷ t) e)))
