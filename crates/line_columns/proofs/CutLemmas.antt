-- A text that is cut at the first octet of a kind.
use Rattle.std.proofs.Common.{◌≡◌, ℕ, suc, ◌+◌, Bool, not, List, [], ◌∷◌, length, take, drop, Option, refl, ap, ◌∙◌, inl, inr, arith, ltb}
use Rattle.std.proofs.lemmas.Bool.{cases_Bool, ltb-false}
use Rattle.std.proofs.lemmas.List.Sums.{prefix_len-le-length}
use Rattle.std.specs.List.{position, position_or_len}
use Rattle.std.specs.Option.{unwrap_or}
use Rattle.line_columns.specs.Texts.{before, «from»}

place_or_end : (is : ℕ → Bool) (text : List ℕ) → unwrap_or (position is text) (length text) ≡ position_or_len is text
place_or_end is text =
    let most = prefix_len-le-length (λ (o : ℕ). not (is o)) text in
    elim (cases_Bool (ltb (position_or_len is text) (length text))) [
      | inl within ↦ rw within refl
      | inr without ↦ let far = ltb-false _ _ without in rw without (omega (arith, most, far))
    ]

one_more : (n : ℕ) → 1 + n ≡ suc n
one_more n = omega arith

taken : (is : ℕ → Bool) (text : List ℕ) → take (position_or_len is text) text ≡ before is text
taken is [] = refl
taken is (octet ∷ text) =
    elim (cases_Bool (is octet)) [
      | inl here ↦ rw here refl
      | inr later ↦ rw later (rw one_more (ap (λ (t : List ℕ). octet ∷ t) (taken is text)))
    ]

dropped : (is : ℕ → Bool) (text : List ℕ) → drop (position_or_len is text) text ≡ «from» is text
dropped is [] = refl
dropped is (octet ∷ text) =
    elim (cases_Bool (is octet)) [
      | inl here ↦ rw here refl
      | inr later ↦ rw later (rw one_more (dropped is text))
    ]

-- where it is cut
pub cut_is : (is : ℕ → Bool) (text front rest : List ℕ) (at : Option ℕ) → at ≡ position is text → front ≡ take (unwrap_or at (length text)) text
    → rest ≡ drop (unwrap_or at (length text)) text → (front ≡ before is text) × (rest ≡ «from» is text)
cut_is is text front rest at place first second =
    let here : unwrap_or at (length text) ≡ position_or_len is text = ap (λ (o : Option ℕ). unwrap_or o (length text)) place ∙ place_or_end is text in (
      first ∙ ap (λ (n : ℕ). take n text) here ∙ taken is text,
      second ∙ ap (λ (n : ℕ). drop n text) here ∙ dropped is text,
    )
