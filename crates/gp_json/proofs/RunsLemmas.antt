-- Runs of octets that stand for themselves.
use Rattle.std.proofs.Common.{◌≡◌, ℕ, ◌+◌, ◌<◌, ◌≤◌, suc, false, true, List, [], ◌∷◌, ◌++◌, append_assoc, length, take, drop, Option, None, Some, Result, Ok, Err, OnOk, refl, sym, ap, subst, ◌∙◌, inl, inr, arith, ltb}
use Rattle.std.proofs.lemmas.Bool.{cases_Bool, ltb-false, ltb-true}
use Rattle.std.proofs.lemmas.List.{append-nil, drop_all, take_all}
use Rattle.std.specs.List.{flat_map, list_all, position, position_or_len}
use Rattle.std.specs.Option.{unwrap_or}
use Rattle.gp_json.specs.Spelling.{escaped}
use Rattle.gp_json.specs.Runs.{is_escaped, is_plain}

-- such an octet is spelled as it is
plain : (octet : ℕ) → is_escaped octet ≡ false → escaped octet ≡ octet ∷ []
plain octet is = grind arith

abbrev place : List ℕ → ℕ
place text = position_or_len is_escaped text

abbrev spelled : List ℕ → List ℕ
spelled text = flat_map escaped text

one_more : (octet : ℕ) (text : List ℕ) (n : ℕ) → spelled text ≡ take n text ++ spelled (drop n text)
    → octet ∷ spelled text ≡ take (1 + n) (octet ∷ text) ++ spelled (drop (1 + n) (octet ∷ text))
one_more octet text n is = let e : 1 + n ≡ suc n = omega arith in rw e (ap (λ (l : List ℕ). octet ∷ l) is)

-- a text is the octets before its first other octet, and the rest
run : (text : List ℕ) → spelled text ≡ take (place text) text ++ spelled (drop (place text) text)
run [] = refl
run (octet ∷ text) =
    elim (cases_Bool (is_escaped octet)) [
      | inl other ↦ rw other refl
      | inr same ↦ rw same (ap (λ (l : List ℕ). l ++ spelled text) (plain octet same) ∙ one_more octet text (place text) (run text))
    ]

here : (text : List ℕ) (at : ℕ) → Some at ≡ position is_escaped text → (place text ≡ at) × (at < length text)
here text at is =
    elim (cases_Bool (ltb (place text) (length text))) [
      | inl within ↦ let same : place text ≡ at = cc (rw within at is) in (same, let below = ltb-true (place text) (length text) within in omega (arith, below, same))
      | inr without ↦ cc (rw without at is)
    ]

nowhere : (text : List ℕ) → None ≡ position is_escaped text → length text ≤ place text
nowhere text none =
    elim (cases_Bool (ltb (place text) (length text))) [
      | inl within ↦ cc (rw within at none)
      | inr without ↦ ltb-false _ _ without
    ]

-- the octets that stand for themselves, and the rest
pub plain_and_rest : (text : List ℕ) (found : Option ℕ) (at : ℕ) → found ≡ position is_escaped text → at ≡ unwrap_or found (length text)
    → (at ≤ length text) × (spelled text ≡ take at text ++ spelled (drop at text))
plain_and_rest text (Some k) at is value =
    let there = here text k is in
    let same : place text ≡ at = there.0 ∙ sym value in
    (omega (arith, there.1, value), subst (λ (n : ℕ). spelled text ≡ take n text ++ spelled (drop n text)) same (run text))
plain_and_rest text None at is value =
    let far = nowhere text is in
    let all : spelled text ≡ text =
    run text ∙ ap (λ (l : List ℕ). l ++ spelled (drop (place text) text)) (take_all (place text) text far)
    ∙ ap (λ (l : List ℕ). text ++ spelled l) (drop_all (place text) text far) ∙ append-nil text in
    let whole : length text ≤ at = omega (arith, value) in (
      omega (arith, value),
      all ∙ sym (ap (λ (l : List ℕ). l ++ spelled (drop at text)) (take_all at text whole) ∙ ap (λ (l : List ℕ). text ++ spelled l) (drop_all at text whole) ∙ append-nil text),
    )

-- both are appended
pub appended_both : {E : Type 0} (r : Result (Unit {0}) E) (out between new text front rest : List ℕ) (found : Option ℕ) (at : ℕ)
    → found ≡ position is_escaped text → at ≡ unwrap_or found (length text) → front ≡ take at text → rest ≡ drop at text
    → between ≡ out ++ front → OnOk r (new ≡ between ++ spelled rest) → OnOk r (new ≡ out ++ spelled text)
appended_both (Ok x) out between new text front rest found at is value first last before h =
    let both = (plain_and_rest text found at is value).1 in
    h ∙ ap (λ (l : List ℕ). l ++ spelled rest) before ∙ append_assoc out front (spelled rest)
    ∙ ap (λ (l : List ℕ). out ++ l) (ap (λ (l : List ℕ). l ++ spelled rest) first ∙ ap (λ (l : List ℕ). take at text ++ spelled l) last ∙ sym both)
appended_both (Err e) out between new text front rest found at is value first last before h = tt

-- a text of which each octet stands for itself
pub spelled_plain : (text : List ℕ) → list_all is_plain text ≡ true → spelled text ≡ text
spelled_plain [] all = refl
spelled_plain (octet ∷ text) all =
    elim (cases_Bool (is_escaped octet)) [
      | inl other ↦ absurd (let clash : false ≡ true = rw other at all in cc)
      | inr same ↦ ap (λ (l : List ℕ). l ++ spelled text) (plain octet same) ∙ ap (λ (l : List ℕ). octet ∷ l) (spelled_plain text (rw same at all))
    ]
