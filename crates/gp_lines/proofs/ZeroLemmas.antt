-- Zeros in front of a number.
use Rattle.std.proofs.Common.{◌≡◌, ℕ, zero, suc, ◌+◌, ◌-◌, ◌<◌, ◌≤◌, true, false, List, [], ◌∷◌, take, drop, length, length-drop, None, Some, refl, sym, ap, ◌∙◌, inl, inr, arith, ltb, get_or}
use Rattle.std.proofs.lemmas.Bool.{cases_Bool, ltb-true, ltb-false}
use Rattle.std.proofs.lemmas.Bool.Decides.{nat_tests}
use Rattle.std.proofs.lemmas.List.{get_or-drop, get_or-take, length-take-le}
use Rattle.std.proofs.lemmas.List.Sums.{AllPass-from_list_all}
use Rattle.std.specs.List.{list_all, position, position_or_len}
use Rattle.gp_lines.specs.Leading.{is_zero, is_other_than_zero}

-- the first so many octets are zeros
abbrev pub AreZeros : ℕ → List ℕ → Type 0
AreZeros count text = (k : ℕ) → k < count → is_other_than_zero (get_or text k 0) ≡ false

other_of : (octet : ℕ) → is_zero octet ≡ true → is_other_than_zero octet ≡ false
other_of octet is = rw is refl

-- a block of zeros more
pub zeros_more : (text : List ℕ) (at count size : ℕ) → count ≡ size → at + size ≤ length text → AreZeros at text
    → list_all is_zero (take count (drop at text)) ≡ true → AreZeros (at + size) text
zeros_more text at count size same within zeros block =
    λ k below. elim (cases_Bool (ltb k at)) [
      | inl before ↦ zeros k (ltb-true _ _ before)
      | inr behind ↦
          let past : at ≤ k = ltb-false _ _ behind in
          let long = length-drop at text in
          let some : length (take count (drop at text)) ≡ count = length-take-le count (drop at text) (omega (arith, long, within, same)) in
          let inside : k - at < length (take count (drop at text)) = omega (arith, some, below, past, same) in
          let here : is_zero (get_or (take count (drop at text)) (k - at) 0) ≡ true = AllPass-from_list_all is_zero (take count (drop at text)) block (k - at) 0 inside in
          let from : at + (k - at) ≡ k = omega (arith, past) in
          let is : get_or (take count (drop at text)) (k - at) 0 ≡ get_or text k 0 =
          get_or-take count (drop at text) (k - at) 0 (omega (arith, inside, some)) ∙ get_or-drop at text (k - at) 0 ∙ ap (λ (n : ℕ). get_or text n 0) from in
          other_of (get_or text k 0) (ap is_zero (sym is) ∙ here)
    ]

past_zeros : (count : ℕ) (text : List ℕ) → count ≤ length text → AreZeros count text
    → position_or_len is_other_than_zero text ≡ count + position_or_len is_other_than_zero (drop count text)
past_zeros zero text within zeros = omega arith
past_zeros (suc count) [] within zeros = absurd (omega (arith, within))
past_zeros (suc count) (octet ∷ rest) within zeros =
    let first : is_other_than_zero octet ≡ false = zeros 0 (omega arith) in
    let more = past_zeros count rest (omega (arith, within)) (λ k below. zeros (suc k) (omega (arith, below))) in
    rw first (omega (arith, more))

-- what isn't a zero stands as far behind them as behind zeros that are left out
pub other_some : (text : List ℕ) (count more : ℕ) → count ≤ length text → AreZeros count text → Some more ≡ position is_other_than_zero (drop count text)
    → Some (count + more) ≡ position is_other_than_zero text
other_some text count more within zeros found =
    let at = past_zeros count text within zeros in
    let long = length-drop count text in
    elim (cases_Bool (ltb (position_or_len is_other_than_zero (drop count text)) (length (drop count text)))) [
      | inl before ↦
          let here : position_or_len is_other_than_zero (drop count text) ≡ more = cc (rw before at found) in
          let inside : ltb (position_or_len is_other_than_zero text) (length text) ≡ true = grind (arith, nat_tests, at, long, within, before) in
          rw inside (ap (λ (n : ℕ). Some n) (omega (arith, at, here)))
      | inr without ↦ cc (rw without at found)
    ]

pub other_none : (text : List ℕ) (count : ℕ) → count ≤ length text → AreZeros count text → None ≡ position is_other_than_zero (drop count text)
    → None ≡ position is_other_than_zero text
other_none text count within zeros none =
    let at = past_zeros count text within zeros in
    let long = length-drop count text in
    elim (cases_Bool (ltb (position_or_len is_other_than_zero (drop count text)) (length (drop count text)))) [
      | inl before ↦ cc (rw before at none)
      | inr without ↦
          let outside : ltb (position_or_len is_other_than_zero text) (length text) ≡ false = grind (arith, nat_tests, at, long, within, without) in
          rw outside refl
    ]
