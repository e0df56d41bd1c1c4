-- Alloc-IDs as a list of objects.
use Rattle.std.proofs.Common.{◌≡◌, ℕ, ◌==◌, ◌+◌, ◌-◌, ◌≤◌, true, false, Result, Ok, Err, OnOk, List, [], ◌∷◌, ◌++◌, length, take, drop, Some, None, codes, refl, sym, ap, ◌∙◌, inl, inr, arith, ltb, append_assoc, length-drop}
use Rattle.std.proofs.lemmas.Bool.{cases_Bool, ltb-true, ltb-false}
use Rattle.std.proofs.lemmas.Bool.Decides.{nat_tests}
use Rattle.std.proofs.lemmas.List.{take_rest}
use Rattle.std.proofs.lemmas.List.Splits.{slice_split_first, slice_split_none}
use Rattle.std.proofs.lemmas.List.Sums.{fails_before_first}
use Rattle.std.specs.List.{position, position_or_len, slice_split}
use Rattle.gp_json.specs.Allocs.{alloc_object, alloc_objects, is_comma, is_leaving, split_allocs, without_mark}

-- ---- a mark

-- a mark at the end is left out
pub mark_dropped : (text : List ℕ) → without_mark (text ++ codes "!") ≡ text
mark_dropped [] = refl
mark_dropped (octet ∷ []) = refl
mark_dropped (octet ∷ next ∷ rest) = ap (λ (t : List ℕ). octet ∷ t) (mark_dropped (next ∷ rest))

-- and says that it is leaving
pub mark_says : (text : List ℕ) → is_leaving (text ++ codes "!") ≡ true
mark_says [] = refl
mark_says (octet ∷ []) = refl
mark_says (octet ∷ next ∷ rest) = mark_says (next ∷ rest)

is_mark : (octet : ℕ) → (octet == 33) ≡ true → octet ∷ [] ≡ [] ++ codes "!"
is_mark octet h = let same : octet ≡ 33 = grind (arith, nat_tests, h) in ap (λ (o : ℕ). o ∷ []) same

-- with none there, nothing is left out
pub no_mark : (text : List ℕ) → ((front : List ℕ) → text ≡ front ++ codes "!" → ⊥) → without_mark text ≡ text
no_mark [] none = refl
no_mark (octet ∷ []) none =
    elim (cases_Bool (octet == 33)) [
      | inl same ↦ absurd (none [] (is_mark octet same))
      | inr other ↦ rw other refl
    ]
no_mark (octet ∷ next ∷ rest) none =
    ap (λ (t : List ℕ). octet ∷ t) (no_mark (next ∷ rest) (λ front e. none (octet ∷ front) (ap (λ (t : List ℕ). octet ∷ t) e)))

-- and it isn't leaving
pub none_says : (text : List ℕ) → ((front : List ℕ) → text ≡ front ++ codes "!" → ⊥) → is_leaving text ≡ false
none_says [] none = refl
none_says (octet ∷ []) none =
    elim (cases_Bool (octet == 33)) [
      | inl same ↦ absurd (none [] (is_mark octet same))
      | inr other ↦ other
    ]
none_says (octet ∷ next ∷ rest) none =
    none_says (next ∷ rest) (λ front e. none (octet ∷ front) (ap (λ (t : List ℕ). octet ∷ t) e))

-- ---- what commas part

abbrev place : List ℕ → ℕ
place text = position_or_len is_comma text

-- a text with a comma is parted there
split_at : (text : List ℕ) (at : ℕ) → Some at ≡ position is_comma text
    → split_allocs text ≡ take at text ∷ split_allocs (take (length text - (at + 1)) (drop (at + 1) text))
unfolding split_allocs
split_at text at found =
    elim (cases_Bool (ltb (place text) (length text))) [
      | inl within ↦
          let here : place text ≡ at = cc (rw within at found) in
          slice_split_first is_comma text 0 (ltb-true _ _ within)
          ∙ ap (λ (n : ℕ). take n text ∷ slice_split is_comma (drop (n + 1) text)) here
          ∙ ap (λ (rest : List ℕ). take at text ∷ slice_split is_comma rest) (sym (take_rest text (at + 1)))
      | inr without ↦ cc (rw without at found)
    ]

alone : (text : List ℕ) → ltb (place text) (length text) ≡ false → slice_split is_comma text ≡ text ∷ []
alone text without =
    slice_split_none is_comma text (λ k d below. fails_before_first is_comma text k d (omega (arith, below, ltb-false _ _ without)))

-- a text with no comma is one part
split_alone : (text : List ℕ) → None ≡ position is_comma text → split_allocs text ≡ text ∷ []
unfolding split_allocs
split_alone text none =
    elim (cases_Bool (ltb (place text) (length text))) [
      | inl within ↦ cc (rw within at none)
      | inr without ↦ alone text without
    ]

-- there is a first part
split_some : (text : List ℕ) → (first : List ℕ) × (others : List (List ℕ)) × (split_allocs text ≡ first ∷ others)
unfolding split_allocs
split_some text =
    elim (cases_Bool (ltb (place text) (length text))) [
      | inl within ↦ (take (place text) text, slice_split is_comma (drop (place text + 1) text), slice_split_first is_comma text 0 (ltb-true _ _ within))
      | inr without ↦ (text, [], alone text without)
    ]

-- what stands behind a comma is no longer than the text
pub shorter : (rest all : List ℕ) (at : ℕ) → length rest ≤ length all → length (take (length rest - (at + 1)) (drop (at + 1) rest)) ≤ length all
shorter rest all at h =
    let whole = ap length (take_rest rest (at + 1)) in
    let less = length-drop (at + 1) rest in
    omega (arith, h, whole, less)

-- ---- objects behind what a buffer holds

-- the objects of a part and of what stands behind its comma
objects_at : (part text : List ℕ) (parts : List (List ℕ)) → parts ≡ part ∷ split_allocs text
    → alloc_objects parts ≡ alloc_object part ++ codes "," ++ alloc_objects (split_allocs text)
objects_at part text parts is =
    let some = split_some text in
    ap alloc_objects (is ∙ ap (λ (ps : List (List ℕ)). part ∷ ps) some.2)
    ∙ ap (λ (ps : List (List ℕ)). alloc_object part ++ codes "," ++ alloc_objects ps) (sym some.2)

-- one more
pub object_more : (start out rest all text more : List ℕ) (at : ℕ) → out ++ alloc_objects (split_allocs rest) ≡ start ++ alloc_objects (split_allocs all)
    → Some at ≡ position is_comma rest → more ≡ out ++ (alloc_object (take at rest) ++ codes ",") → text ≡ take (length rest - (at + 1)) (drop (at + 1) rest)
    → more ++ alloc_objects (split_allocs text) ≡ start ++ alloc_objects (split_allocs all)
object_more start out rest all text more at so found told behind =
    let object = alloc_object (take at rest) in
    let others = alloc_objects (split_allocs text) in
    let parts = split_at rest at found ∙ ap (λ (t : List ℕ). take at rest ∷ split_allocs t) (sym behind) in
    ap (λ (l : List ℕ). l ++ others) told
    ∙ append_assoc out (object ++ codes ",") others
    ∙ ap (λ (l : List ℕ). out ++ l) (sym (objects_at (take at rest) text (split_allocs rest) parts))
    ∙ so

-- the last
pub object_last : {E : Type 0} (r : Result (Unit {0}) E) (start out rest all new : List ℕ) → out ++ alloc_objects (split_allocs rest) ≡ start ++ alloc_objects (split_allocs all)
    → None ≡ position is_comma rest → OnOk r (new ≡ out ++ alloc_object rest) → OnOk r (new ≡ start ++ alloc_objects (split_allocs all))
object_last (Ok u) start out rest all new so none told = told ∙ ap (λ (ps : List (List ℕ)). out ++ alloc_objects ps) (sym (split_alone rest none)) ∙ so
object_last (Err e) start out rest all new so none told = tt
