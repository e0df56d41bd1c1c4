-- A field in quotation marks, passed an octet at a time.
use Rattle.std.proofs.Common.{◌≡◌, ℕ, suc, ◌+◌, ◌<◌, ◌==◌, false, List, [], ◌∷◌, ◌++◌, length, take, drop, refl, sym, ap, ◌∙◌, subst, arith}
use Rattle.std.proofs.Math.ListN.{get_or}
use Rattle.std.proofs.Math.Seq.{drop-cons, take-suc}
use Rattle.line_columns.specs.Fields.{quoted}

passed : (said : List ℕ) (octet : ℕ) (text : List ℕ) → (octet == 34) ≡ false → quoted said (octet ∷ text) ≡ quoted (said ++ octet ∷ []) text
passed said octet [] other = rw other refl
passed said octet (next ∷ text) other = rw other refl

-- past one that is no mark
other_passed : (text : List ℕ) (at : ℕ) → at < length text → (get_or text at 0 == 34) ≡ false
    → quoted (take at text) (drop at text) ≡ quoted (take (suc at) text) (drop (suc at) text)
other_passed text at within other =
    ap (quoted (take at text)) (drop-cons text at 0 within) ∙ passed (take at text) (get_or text at 0) (drop (suc at) text) other
    ∙ ap (λ (said : List ℕ). quoted said (drop (suc at) text)) (sym (take-suc text at 0 within))

pub passed_other : (text : List ℕ) (at more : ℕ) → suc at ≡ more → at < length text → (get_or text at 0 == 34) ≡ false
    → quoted (take at text) (drop at text) ≡ quoted (take more text) (drop more text)
passed_other text at more next within other =
    subst (λ (n : ℕ). quoted (take at text) (drop at text) ≡ quoted (take n text) (drop n text)) next (other_passed text at within other)

two_more : (said : List ℕ) → (said ++ 34 ∷ []) ++ 34 ∷ [] ≡ said ++ 34 ∷ 34 ∷ []
two_more [] = refl
two_more (octet ∷ said) = ap (λ (l : List ℕ). octet ∷ l) (two_more said)

-- past two marks
two_passed : (text : List ℕ) (at : ℕ) → suc at < length text → get_or text at 0 ≡ 34 → get_or text (suc at) 0 ≡ 34
    → quoted (take at text) (drop at text) ≡ quoted (take (suc (suc at)) text) (drop (suc (suc at)) text)
two_passed text at within first second =
    let front : take (suc (suc at)) text ≡ take at text ++ 34 ∷ 34 ∷ [] =
    take-suc text (suc at) 0 within ∙ ap (λ (o : ℕ). take (suc at) text ++ o ∷ []) second
    ∙ ap (λ (l : List ℕ). l ++ 34 ∷ []) (take-suc text at 0 (omega (arith, within)) ∙ ap (λ (o : ℕ). take at text ++ o ∷ []) first) ∙ two_more (take at text) in
    let rest : drop at text ≡ 34 ∷ 34 ∷ drop (suc (suc at)) text =
    drop-cons text at 0 (omega (arith, within)) ∙ ap (λ (o : ℕ). o ∷ drop (suc at) text) first
    ∙ ap (λ (l : List ℕ). 34 ∷ l) (drop-cons text (suc at) 0 within ∙ ap (λ (o : ℕ). o ∷ drop (suc (suc at)) text) second) in
    ap (quoted (take at text)) rest ∙ ap (λ (said : List ℕ). quoted said (drop (suc (suc at)) text)) (sym front)

pub passed_two : (text : List ℕ) (at second more : ℕ) → suc at ≡ second → suc (suc at) ≡ more → second < length text → get_or text at 0 ≡ 34 → get_or text second 0 ≡ 34
    → quoted (take at text) (drop at text) ≡ quoted (take more text) (drop more text)
passed_two text at second more next behind within first mark =
    subst (λ (n : ℕ). quoted (take at text) (drop at text) ≡ quoted (take n text) (drop n text)) behind
    (two_passed text at (omega (arith, next, within)) first (ap (λ (n : ℕ). get_or text n 0) next ∙ mark))
