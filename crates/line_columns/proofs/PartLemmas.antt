-- The parts of a text that asks for columns.
use Rattle.std.proofs.Common.{◌≡◌, ℕ, ◌<◌, ◌==◌, true, false, List, [], ◌∷◌, length, None, refl, arith}
use Rattle.std.proofs.lemmas.Bool.Decides.{nat_tests}
use Rattle.std.proofs.lemmas.List.Splits.{slice_split_first, slice_split_none}
use Rattle.std.proofs.lemmas.List.Sums.{fails_before_first}
use Rattle.std.specs.List.{after_first, before_first, position_or_len}
use Rattle.line_columns.specs.Asked.{PartTexts, is_comma, is_equals, parts_of, with_key, with_part}

-- a part without `=` says no column
pub unkeyed : (parts : PartTexts) (part : List ℕ) → position_or_len is_equals part ≡ length part → with_part parts part ≡ None
unfolding with_part
unkeyed parts part none =
    let all : (position_or_len is_equals part == length part) ≡ true = grind (arith, nat_tests, none) in
    rw all refl

-- one with it says that of its key
pub keyed : (parts : PartTexts) (part : List ℕ) → position_or_len is_equals part < length part
    → with_part parts part ≡ with_key parts (before_first is_equals part) (after_first is_equals part)
unfolding with_part
keyed parts part within =
    let one : (position_or_len is_equals part == length part) ≡ false = grind (arith, nat_tests, within) in
    rw one refl

-- a text with a comma begins with a part, and the parts of what stands behind the comma follow
pub parts_first : (text : List ℕ) → position_or_len is_comma text < length text → parts_of text ≡ before_first is_comma text ∷ parts_of (after_first is_comma text)
unfolding parts_of
parts_first text within = slice_split_first is_comma text 0 within

-- one without a comma is a part
pub parts_alone : (text : List ℕ) → position_or_len is_comma text ≡ length text → parts_of text ≡ text ∷ []
unfolding parts_of
parts_alone text none = slice_split_none is_comma text (λ k d below. fails_before_first is_comma text k d (omega (arith, below, none)))
