-- A text that is cut at a word, step by step; and what two texts begin with.
use Rattle.std.proofs.Common.{◌≡◌, ℕ, ◌+◌, ◌<◌, ◌≤◌, List, [], ◌∷◌, ◌++◌, length, take, drop, Option, None, get_or, refl, sym, ap, ◌∙◌, arith, append_assoc}
use denote.Ref.{Bor}
use Rattle.std.specs.Option.{option_copied}
use Rattle.std.proofs.lemmas.List.{drop_all, drop_more, take_more}
use Rattle.gp_decode.specs.LineText.{behind}
use Rattle.gp_differ.specs.Alike.{common_length}
use Rattle.gp_differ.specs.Parts.{cut_at, cut_here}

-- a cut of what stands behind a text
abbrev pub ahead : List ℕ → List ℕ × Option (List ℕ) → List ℕ × Option (List ℕ)
ahead front cut = (front ++ cut.0, cut.1)

-- an octet more, where the word doesn't stand there
pub cut_step : (word text piece : List ℕ) (at : ℕ) (found : Option (Bor (List ℕ))) → at < length text → found ≡ None → option_copied found ≡ behind word piece
    → piece ≡ drop at text → cut_at word text ≡ ahead (take at text) (cut_at word (drop at text))
    → cut_at word text ≡ ahead (take (at + 1) text) (cut_at word (drop (at + 1) text))
cut_step word text piece at found within missing told here so =
    let octet = get_or text at 0 in
    let rest = drop (at + 1) text in
    let later = cut_at word rest in
    let step : drop at text ≡ octet ∷ rest = drop_more text at 0 within in
    let none : behind word (octet ∷ rest) ≡ None = sym (ap (behind word) (here ∙ step)) ∙ sym told ∙ ap option_copied missing in
    let cut : cut_at word (octet ∷ rest) ≡ (octet ∷ later.0, later.1) = ap (λ (b : Option (List ℕ)). cut_here b octet later) none in
    let front : take at text ++ (octet ∷ later.0) ≡ take (at + 1) text ++ later.0 =
    sym (append_assoc (take at text) (octet ∷ []) later.0) ∙ ap (λ (t : List ℕ). t ++ later.0) (sym (take_more text at 0 within)) in
    so ∙ ap (λ (l : List ℕ). ahead (take at text) (cut_at word l)) step ∙ ap (ahead (take at text)) cut ∙ ap (λ (f : List ℕ). (f, later.1)) front

-- ---- what two texts begin with

common_none : (first : List ℕ) → common_length first [] ≡ 0
common_none [] = refl
common_none (octet ∷ first) = refl

-- the second text has ended
pub second_ended : (first second : List ℕ) (at count : ℕ) → length second ≤ at → count ≡ at + common_length (drop at first) (drop at second) → at ≡ count
second_ended first second at count ended so =
    let whole : at + 0 ≡ at = omega arith in
    sym (so ∙ ap (λ (l : List ℕ). at + common_length (drop at first) l) (drop_all at second ended) ∙ ap (λ (n : ℕ). at + n) (common_none (drop at first)) ∙ whole)
