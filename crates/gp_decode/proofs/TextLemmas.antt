-- What a line of an input says.
use Rattle.std.proofs.Common.{◌≡◌, ◌≢◌, ℕ, ◌==◌, ◌+◌, ◌-◌, true, false, is_ok, if◌then◌else◌, Result, Ok, Err, OnOk, List, [], ◌∷◌, ◌++◌, length, take, drop, Option, Some, None, MatchOption, codes, refl, sym, ap, ◌∙◌, inl, inr, arith, ltb, append_assoc, append-nil}
use denote.Ref.{Bor}
use Rattle.std.specs.Option.{option_copied}
use Rattle.std.proofs.lemmas.Bool.{cases_Bool, ltb-true, ltb-false}
use Rattle.std.proofs.lemmas.Bool.Decides.{nat_tests}
use Rattle.std.proofs.lemmas.List.{take_rest}
use Rattle.std.proofs.lemmas.List.Splits.{slice_split_first, slice_split_none}
use Rattle.std.proofs.lemmas.List.Sums.{fails_before_first}
use Rattle.std.specs.List.{flat_map, position, position_or_len, slice_split}
use Rattle.gp_decode.specs.LineText.{behind, code_digits, is_between, without_prefix, without_return}

-- ---- a carriage return

-- a carriage return at the end is dropped
pub return_dropped : (text : List ℕ) → without_return (text ++ codes "\r") ≡ text
return_dropped [] = refl
return_dropped (octet ∷ []) = refl
return_dropped (octet ∷ next ∷ rest) = ap (λ (t : List ℕ). octet ∷ t) (return_dropped (next ∷ rest))

is_return : (octet : ℕ) → (octet == 13) ≡ true → octet ∷ [] ≡ [] ++ codes "\r"
is_return octet h = let same : octet ≡ 13 = grind (arith, nat_tests, h) in ap (λ (o : ℕ). o ∷ []) same

-- with none there, nothing is
pub return_kept : (text : List ℕ) → ((front : List ℕ) → text ≡ front ++ codes "\r" → ⊥) → without_return text ≡ text
return_kept [] none = refl
return_kept (octet ∷ []) none =
    elim (cases_Bool (octet == 13)) [
      | inl same ↦ absurd (none [] (is_return octet same))
      | inr other ↦ rw other refl
    ]
return_kept (octet ∷ next ∷ rest) none =
    ap (λ (t : List ℕ). octet ∷ t) (return_kept (next ∷ rest) (λ front e. none (octet ∷ front) (ap (λ (t : List ℕ). octet ∷ t) e)))

-- ---- a word in front

itself : (letter : ℕ) → (letter == letter) ≡ true
itself letter = grind (arith, nat_tests)

behind_word : (word rest : List ℕ) → behind word (word ++ rest) ≡ Some rest
behind_word [] rest = refl
behind_word (letter ∷ word) rest = rw (itself letter) (behind_word word rest)

heads : (letter octet : ℕ) (front rest : List ℕ) → (letter == octet) ≡ true → rest ≡ front → octet ∷ rest ≡ letter ∷ front
heads letter octet front rest same e =
    let is : octet ≡ letter = grind (arith, nat_tests, same) in
    ap (λ (o : ℕ). o ∷ rest) is ∙ ap (λ (t : List ℕ). letter ∷ t) e

behind_none : (word text : List ℕ) → ((rest : List ℕ) → text ≢ word ++ rest) → behind word text ≡ None
behind_none [] text none = absurd (none text refl)
behind_none (letter ∷ word) [] none = refl
behind_none (letter ∷ word) (octet ∷ text) none =
    elim (cases_Bool (letter == octet)) [
      | inl same ↦ rw same (behind_none word text (λ rest e. none rest (heads letter octet (word ++ rest) text same e)))
      | inr other ↦ rw other refl
    ]

pub is_behind : (word text : List ℕ) (found : Option (Bor (List ℕ)))
    → MatchOption found ((rest : List ℕ) → text ≢ word ++ rest) (λ x. text ≡ word ++ x.now) → option_copied found ≡ behind word text
is_behind word text None none = sym (behind_none word text none)
is_behind word text (Some x) is = sym (ap (behind word) is ∙ behind_word word x.now)

-- ---- the digits of a code

abbrev place : List ℕ → ℕ
place text = position_or_len is_between text

-- the digits of a text with something between are those before it and those behind it
pub digits_at : (text : List ℕ) (at : ℕ) → Some at ≡ position is_between text
    → code_digits text ≡ without_prefix (take at text) ++ code_digits (take (length text - (at + 1)) (drop (at + 1) text))
unfolding code_digits
digits_at text at found =
    elim (cases_Bool (ltb (place text) (length text))) [
      | inl within ↦
          let here : place text ≡ at = cc (rw within at found) in
          ap (flat_map without_prefix) (slice_split_first is_between text 0 (ltb-true _ _ within))
          ∙ ap (λ (n : ℕ). without_prefix (take n text) ++ flat_map without_prefix (slice_split is_between (drop (n + 1) text))) here
          ∙ ap (λ (rest : List ℕ). without_prefix (take at text) ++ flat_map without_prefix (slice_split is_between rest)) (sym (take_rest text (at + 1)))
      | inr without ↦ cc (rw without at found)
    ]

alone : (text : List ℕ) → ltb (place text) (length text) ≡ false → slice_split is_between text ≡ text ∷ []
alone text without =
    slice_split_none is_between text (λ k d below. fails_before_first is_between text k d (omega (arith, below, ltb-false _ _ without)))

-- those of a text with nothing between are the text's, without `0x`
pub digits_alone : (text : List ℕ) → None ≡ position is_between text → code_digits text ≡ without_prefix text
unfolding code_digits
digits_alone text none =
    elim (cases_Bool (ltb (place text) (length text))) [
      | inl within ↦ cc (rw within at none)
      | inr without ↦ ap (flat_map without_prefix) (alone text without) ∙ append-nil (without_prefix text)
    ]

-- ---- digits behind what a buffer holds

-- one group more
pub group_more : (start out more text rest all : List ℕ) (at : ℕ) → out ++ code_digits rest ≡ start ++ code_digits all → Some at ≡ position is_between rest
    → more ≡ without_prefix (take at rest) → text ≡ take (length rest - (at + 1)) (drop (at + 1) rest)
    → (out ++ more) ++ code_digits text ≡ start ++ code_digits all
group_more start out more text rest all at so found group behind =
    append_assoc out more (code_digits text)
    ∙ ap (λ (t : List ℕ). out ++ t) (ap (λ (t : List ℕ). t ++ code_digits text) group
    ∙ ap (λ (t : List ℕ). without_prefix (take at rest) ++ code_digits t) behind ∙ sym (digits_at rest at found))
    ∙ so

-- the last group
pub group_last : {E : Type 0} (r : Result (Unit {0}) E) (start out more rest all new : List ℕ) → out ++ code_digits rest ≡ start ++ code_digits all → None ≡ position is_between rest
    → more ≡ without_prefix rest → new ≡ (if is_ok r then out ++ more else out) → OnOk r (new ≡ start ++ code_digits all)
group_last (Ok u) start out more rest all new so none group items =
    items ∙ ap (λ (t : List ℕ). out ++ t) (group ∙ sym (digits_alone rest none)) ∙ so
group_last (Err e) start out more rest all new so none group items = tt
