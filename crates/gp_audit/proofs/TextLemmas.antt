-- Texts that are given, one after another, and the names of a list.
use Rattle.std.proofs.Common.{◌≡◌, ℕ, zero, suc, ◌+◌, ◌<◌, ◌≤◌, List, [], ◌∷◌, length, map, drop, get_or, refl, subst, arith}
use Rattle.std.proofs.lemmas.List.Splits.{slice_split_first, slice_split_none}
use Rattle.std.proofs.lemmas.List.Sums.{fails_before_first}
use Rattle.std.specs.Borrow.{Bor}
use Rattle.std.specs.List.{after_first, before_first, position_or_len}
use Rattle.gp_audit.specs.Texts.{Text, is_comma, names_of}

-- ---- texts

-- the texts from one on are it and those behind it
from_next : (given : List (Bor Text)) (at : ℕ) (d : Bor Text) → at < length given
    → drop at (map (λ word. word.now) given) ≡ (get_or given at d).now ∷ drop (suc at) (map (λ word. word.now) given)
from_next [] at d within = absurd (omega arith)
from_next (first ∷ given) zero d within = refl
from_next (first ∷ given) (suc at) d within = from_next given at d (omega arith)

pub texts_from : (given : List (Bor Text)) (at : ℕ) (d : Bor Text) → at < length given
    → drop at (map (λ word. word.now) given) ≡ (get_or given at d).now ∷ drop (at + 1) (map (λ word. word.now) given)
texts_from given at d within =
    let next : suc at ≡ at + 1 = omega arith in
    subst (λ (n : ℕ). drop at (map (λ word. word.now) given) ≡ (get_or given at d).now ∷ drop n (map (λ word. word.now) given)) next (from_next given at d within)

-- behind the last there is none
pub none_from : (given : List (Bor Text)) (at : ℕ) → length given ≤ at → drop at (map (λ word. word.now) given) ≡ []
none_from [] zero all = refl
none_from [] (suc at) all = refl
none_from (first ∷ given) zero all = absurd (omega arith)
none_from (first ∷ given) (suc at) all = none_from given at (omega arith)

-- ---- a list

-- a list with a comma begins with a name, and the names of what stands behind the comma follow
pub names_first : (list : Text) → position_or_len is_comma list < length list → names_of list ≡ before_first is_comma list ∷ names_of (after_first is_comma list)
unfolding names_of
names_first list within = slice_split_first is_comma list 0 within

-- one without a comma is a name
pub names_alone : (list : Text) → position_or_len is_comma list ≡ length list → names_of list ≡ list ∷ []
unfolding names_of
names_alone list none = slice_split_none is_comma list (λ k d below. fails_before_first is_comma list k d (omega (arith, below, none)))
