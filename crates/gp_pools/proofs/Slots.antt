-- Eight places with Alloc-IDs in rising order: what a search finds, and what an edit leaves.
use Rattle.std.proofs.Common.{◌≡◌, ℕ, zero, suc, ◌+◌, ◌-◌, ◌<◌, ◌≤◌, false, List, [], ◌∷◌, ◌++◌, length, map, replicate, inl, inr, take, drop, set, Option, None, Some, is_some, refl, sym, ap, subst, ◌∙◌, get_or, arith, append_assoc}
use Rattle.std.proofs.lemmas.List.{map-append, length-map, length-replicate, length-append, get_or_append_left, get_or-append_right, take-append-le, drop-append-le, take-map, drop-map, take_at, drop_at, take_all, drop_all, set_at, length-take-le, length-drop, length_push, append-nil, replicate_more, take-append-drop, drop_more, take_more, get_or_at, get_or_default}
use Rattle.std.proofs.lemmas.Bool.{cases_lt, cases_eq, false≢true}
use Rattle.std.proofs.lemmas.List.Edits.{insert-append_left, length-insert, remove-append_left, length-remove}
use Rattle.std.proofs.lemmas.Slice.{put_mid-rotated}
use borrow.Rule.Slice.PartMut.{mid_of, put_mid}
use Rattle.std.specs.List.{insert, remove}
use Rattle.gp_pools.specs.Allocs.{number_at, IsRising, IsGapFor}
use Rattle.gp_pools.specs.Slots.{filled, slots_of, AreSlots}
use Rattle.gp_pools.proofs.AllocPlaces.{Entry, nowhere}

abbrev pub Slots : Type 0
Slots = List (Option Entry)

abbrev nothing : Option Entry
nothing = None

-- ---- what stands in a place

map_at : (es : List Entry) (i : ℕ) → i < length es → get_or (map Some es) i None ≡ Some (get_or es i nowhere)
map_at [] i within = absurd (omega arith)
map_at (e ∷ es) zero within = refl
map_at (e ∷ es) (suc i) within = map_at es i (omega arith)

all_empty : (k i : ℕ) → get_or (replicate k nothing) i None ≡ None
all_empty zero i = refl
all_empty (suc k) zero = refl
all_empty (suc k) (suc i) = all_empty k i

module _ (slots : Slots) (h : AreSlots slots) where
  pub eight : length slots ≡ 8
  eight =
      let size = ap length h.first in
      let few = h.few in
      let both = length-append (map Some (filled slots)) (replicate (8 - length (filled slots)) None) in
      let left = length-map (filled slots) Some in
      let right = length-replicate (8 - length (filled slots)) nothing in
      omega arith

  pub slot_filled : (i : ℕ) → i < length (filled slots) → get_or slots i None ≡ Some (get_or (filled slots) i nowhere)
  slot_filled i within =
      let left = length-map (filled slots) Some in
      ap (λ (xs : Slots). get_or xs i None) (sym h.first)
      ∙ get_or_append_left (map Some (filled slots)) (replicate (8 - length (filled slots)) None) None i (omega arith)
      ∙ map_at (filled slots) i within

  pub slot_empty : (i : ℕ) → length (filled slots) ≤ i → get_or slots i None ≡ None
  slot_empty i beyond =
      ap (λ (xs : Slots). get_or xs i None) (sym h.first)
      ∙ get_or-append_right (map Some (filled slots)) (replicate (8 - length (filled slots)) None) (length (filled slots)) i None (length-map (filled slots) Some) beyond
      ∙ all_empty (8 - length (filled slots)) (i - length (filled slots))

  none_some : (e : Entry) → None ≡ Some e → ⊥
  none_some e is = cc

  same_entry : (e f : Entry) → Some e ≡ Some f → e ≡ f
  same_entry e f is = cc

  -- a place with an Alloc-ID is one of the first
  pub entry_at : (i : ℕ) (e : Entry) → get_or slots i None ≡ Some e → (i < length (filled slots)) × (get_or (filled slots) i nowhere ≡ e)
  entry_at i e is = elim (cases_lt i (length (filled slots))) [
    | inl low ↦ (low, same_entry _ e (sym (slot_filled i low) ∙ is))
    | inr high ↦ absurd (none_some e (sym (slot_empty i high) ∙ is))
  ]

  pub nothing_at : (i : ℕ) → get_or slots i None ≡ None → length (filled slots) ≤ i
  nothing_at i is = elim (cases_lt i (length (filled slots))) [
    | inl low ↦ absurd (none_some (get_or (filled slots) i nowhere) (sym is ∙ slot_filled i low))
    | inr high ↦ high
  ]

-- what a read gave that names another default
pub read_at : (slots : Slots) → AreSlots slots → (i : ℕ) (d r : Option Entry) → i < 8 → r ≡ get_or slots i d → get_or slots i None ≡ r
read_at slots h i d r within is = let size = eight slots h in get_or_default slots i None d (omega arith) ∙ sym is

pub empty_at : (slots : Slots) → AreSlots slots → (i : ℕ) → is_some (get_or slots i None) ≡ false → length (filled slots) ≤ i
empty_at slots h i is = nothing_at slots h i (by_value (get_or slots i None) is)
  where
    by_value : (o : Option Entry) → is_some o ≡ false → o ≡ None
    by_value None e = refl
    by_value (Some e) is = absurd (false≢true (sym is))

-- lower Alloc-IDs before place i, and none or a higher one there
pub gap_at : (slots : Slots) → AreSlots slots → (i number : ℕ) → i ≤ length (filled slots) → ((j : ℕ) → j < i → number_at (filled slots) j < number)
    → (i < length (filled slots) → number < number_at (filled slots) i) → IsGapFor (filled slots) number i
gap_at slots h i number within before here =
    record {
      within = within;
      before = before;
      after = λ j from inside. elim (cases_eq i j) [
        | inl same ↦ subst (λ (k : ℕ). number < number_at (filled slots) k) same (here (omega arith))
        | inr other ↦ let low = here (omega arith) in let rise = h.rising.rising i j (omega (arith, other)) inside in omega arith
      ];
    }

-- ---- edits

filled_empty : (k : ℕ) → filled (replicate k nothing) ≡ []
filled_empty zero = refl
filled_empty (suc k) = filled_empty k

filled_more : (es : List Entry) (k : ℕ) → filled (map Some es ++ replicate k None) ≡ es
filled_more [] k = filled_empty k
filled_more (e ∷ es) k = ap (λ (xs : List Entry). e ∷ xs) (filled_more es k)

pub filled-slots_of : (es : List Entry) → filled (slots_of es) ≡ es
filled-slots_of es = filled_more es (8 - length es)

pub are_slots : (es : List Entry) → IsRising es → length es ≤ 8 → AreSlots (slots_of es)
are_slots es rising few =
    let same = filled-slots_of es in
    record { rising = subst IsRising (sym same) rising; first = ap slots_of same; few = subst (λ (xs : List Entry). length xs ≤ 8) (sym same) few }

-- a list of which the last place was turned in front of place i, and written there
turned_in : {X : Type 0} (ws : List X) (z y : X) (i k : ℕ) (ys : List X) → i ≤ length ws → length ws + 1 ≤ i + k
    → ys ≡ drop (length (mid_of i k (ws ++ z ∷ [])) - 1) (mid_of i k (ws ++ z ∷ [])) ++ take (length (mid_of i k (ws ++ z ∷ [])) - 1) (mid_of i k (ws ++ z ∷ []))
    → set (put_mid i k (ws ++ z ∷ []) ys) i y ≡ insert ws i y
turned_in {X} ws z y i k ys within whole is =
    let rest : List X = drop i ws in
    let long = length-drop i ws in
    let longer : length (rest ++ z ∷ []) ≡ length rest + 1 = length_push rest z in
    let behind : drop i (ws ++ z ∷ []) ≡ rest ++ z ∷ [] = drop-append-le i ws (z ∷ []) within in
    let mid : mid_of i k (ws ++ z ∷ []) ≡ rest ++ z ∷ [] = ap (take k) behind ∙ take_all k (rest ++ z ∷ []) (omega arith) in
    let less : length (rest ++ z ∷ []) - 1 ≡ length rest = omega arith in
    let turned : ys ≡ z ∷ rest =
    is
    ∙ ap (λ (xs : List X). drop (length xs - 1) xs ++ take (length xs - 1) xs) mid
    ∙ ap (λ (n : ℕ). drop n (rest ++ z ∷ []) ++ take n (rest ++ z ∷ [])) less
    ∙ ap (λ (xs : List X). xs ++ take (length rest) (rest ++ z ∷ [])) (drop_at rest (z ∷ []) (length rest) refl)
    ∙ ap (λ (xs : List X). z ∷ xs) (take_at rest (z ∷ []) (length rest) refl) in
    let after : drop k (drop i (ws ++ z ∷ [])) ≡ [] = ap (drop k) behind ∙ drop_all k (rest ++ z ∷ []) (omega arith) in
    ap (λ (xs : List X). set (take i (ws ++ z ∷ []) ++ (xs ++ drop k (drop i (ws ++ z ∷ [])))) i y) turned
    ∙ ap (λ (xs : List X). set (take i (ws ++ z ∷ []) ++ (z ∷ rest ++ xs)) i y) after
    ∙ ap (λ (xs : List X). set (xs ++ (z ∷ rest ++ [])) i y) (take-append-le i ws (z ∷ []) within)
    ∙ set_at (take i ws) z (rest ++ []) y i (length-take-le i ws within)
    ∙ ap (λ (xs : List X). take i ws ++ y ∷ xs) (append-nil rest)

-- a list of which place i was turned to the end, and another written there
turned_out : {X : Type 0} (xs : List X) (i k n : ℕ) (ys : List X) (d y : X) → i < length xs → length xs ≤ i + k → length xs ≡ n + 1 → ys ≡ drop 1 (mid_of i k xs) ++ take 1 (mid_of i k xs)
    → set (put_mid i k xs ys) n y ≡ remove xs i ++ y ∷ []
turned_out xs i k n ys d y within whole long is =
    let shorter = length-remove xs i within in
    ap (λ (zs : List _). set zs n y) (put_mid-rotated i k xs ys d within whole is)
    ∙ set_at (remove xs i) (get_or xs i d) [] y n (omega arith)

map-insert : (es : List Entry) (i : ℕ) (e : Entry) → insert (map Some es) i (Some e) ≡ map Some (insert es i e)
map-insert es i e =
    ap (λ (xs : Slots). xs ++ Some e ∷ drop i (map Some es)) (take-map Some i es)
    ∙ ap (λ (xs : Slots). map Some (take i es) ++ Some e ∷ xs) (drop-map Some i es)
    ∙ sym (map-append Some (take i es) (e ∷ drop i es))

map-remove : (es : List Entry) (i : ℕ) → remove (map Some es) i ≡ map Some (remove es i)
map-remove es i =
    ap (λ (xs : Slots). xs ++ drop (suc i) (map Some es)) (take-map Some i es)
    ∙ ap (λ (xs : Slots). map Some (take i es) ++ xs) (drop-map Some (suc i) es)
    ∙ sym (map-append Some (take i es) (drop (suc i) es))

module _ (slots : Slots) (h : AreSlots slots) (i : ℕ) where
  full_before_last : length (filled slots) < 8 → slots ≡ (map Some (filled slots) ++ replicate (7 - length (filled slots)) None) ++ None ∷ []
  full_before_last few =
      let es = filled slots in
      let one : 8 - length es ≡ 7 - length es + 1 = omega arith in
      sym h.first
      ∙ ap (λ (k : ℕ). map Some es ++ replicate k nothing) one
      ∙ ap (λ (xs : Slots). map Some es ++ xs) (sym (replicate_more (7 - length es) nothing))
      ∙ sym (append_assoc (map Some es) (replicate (7 - length es) nothing) (None ∷ []))

  -- an Alloc-ID put in at place i
  with_eight : (e : Entry) (ys : Slots) → i ≤ length (filled slots) → length (filled slots) < 8
      → ys ≡ drop (length (mid_of i (8 - i) slots) - 1) (mid_of i (8 - i) slots) ++ take (length (mid_of i (8 - i) slots) - 1) (mid_of i (8 - i) slots)
      → set (put_mid i (8 - i) slots ys) i (Some e) ≡ slots_of (insert (filled slots) i e)
  with_eight e ys within few is =
      let es = filled slots in
      let empty : Slots = replicate (7 - length es) None in
      let ws : Slots = map Some es ++ empty in
      let one : slots ≡ ws ++ None ∷ [] = full_before_last few in
      let left = length-map es Some in
      let both = length-append (map Some es) empty in
      let long = length-insert es i e within in
      let less : 7 - length es ≡ 8 - length (insert es i e) = omega arith in
      ap (λ (xs : Slots). set (put_mid i (8 - i) xs ys) i (Some e)) one
      ∙ turned_in ws None (Some e) i (8 - i) ys (omega arith) (omega (arith, length-replicate (7 - length es) nothing)) (subst (λ (xs : Slots). ys ≡ drop (length (mid_of i (8 - i) xs) - 1) (mid_of i (8 - i) xs) ++ take (length (mid_of i (8 - i) xs) - 1) (mid_of i (8 - i) xs)) one is)
      ∙ insert-append_left (map Some es) empty i (Some e) (omega arith)
      ∙ ap (λ (xs : Slots). xs ++ empty) (map-insert es i e)
      ∙ ap (λ (k : ℕ). map Some (insert es i e) ++ replicate k nothing) less

  pub slots_with : (e : Entry) (ys : Slots) → i ≤ length (filled slots) → length (filled slots) < 8
      → ys ≡ drop (length (mid_of i (length slots - i) slots) - 1) (mid_of i (length slots - i) slots) ++ take (length (mid_of i (length slots - i) slots) - 1) (mid_of i (length slots - i) slots)
      → set (put_mid i (length slots - i) slots ys) i (Some e) ≡ slots_of (insert (filled slots) i e)
  slots_with e ys within few =
      subst (λ (n : ℕ). ys ≡ drop (length (mid_of i (n - i) slots) - 1) (mid_of i (n - i) slots) ++ take (length (mid_of i (n - i) slots) - 1) (mid_of i (n - i) slots)
      → set (put_mid i (n - i) slots ys) i (Some e) ≡ slots_of (insert (filled slots) i e)) (sym (eight slots h)) (with_eight e ys within few)

  -- the Alloc-ID at place i taken out
  without_eight : (ys : Slots) → i < length (filled slots) → ys ≡ drop 1 (mid_of i (8 - i) slots) ++ take 1 (mid_of i (8 - i) slots)
      → set (put_mid i (8 - i) slots ys) 7 None ≡ slots_of (remove (filled slots) i)
  without_eight ys within is =
      let es = filled slots in
      let empty : Slots = replicate (8 - length es) None in
      let left = length-map es Some in
      let few = h.few in
      let size = eight slots h in
      let shorter = length-remove es i within in
      let one : 8 - length es + 1 ≡ 8 - length (remove es i) = omega arith in
      turned_out slots i (8 - i) 7 ys None None (omega arith) (omega arith) (omega arith) is
      ∙ ap (λ (xs : Slots). remove xs i ++ None ∷ []) (sym h.first)
      ∙ ap (λ (xs : Slots). xs ++ None ∷ []) (remove-append_left (map Some es) empty i (omega arith) ∙ ap (λ (xs : Slots). xs ++ empty) (map-remove es i))
      ∙ append_assoc (map Some (remove es i)) empty (None ∷ [])
      ∙ ap (λ (xs : Slots). map Some (remove es i) ++ xs) (replicate_more (8 - length es) nothing)
      ∙ ap (λ (k : ℕ). map Some (remove es i) ++ replicate k nothing) one

  pub slots_without : (ys : Slots) → i < length (filled slots) → ys ≡ drop 1 (mid_of i (length slots - i) slots) ++ take 1 (mid_of i (length slots - i) slots)
      → set (put_mid i (length slots - i) slots ys) 7 None ≡ slots_of (remove (filled slots) i)
  slots_without ys within =
      subst (λ (n : ℕ). ys ≡ drop 1 (mid_of i (n - i) slots) ++ take 1 (mid_of i (n - i) slots) → set (put_mid i (n - i) slots ys) 7 None ≡ slots_of (remove (filled slots) i)) (sym (eight slots h)) (without_eight ys within)

-- ---- one place after another

filled-append : (xs ys : Slots) → filled (xs ++ ys) ≡ filled xs ++ filled ys
filled-append [] ys = refl
filled-append (None ∷ xs) ys = filled-append xs ys
filled-append (Some e ∷ xs) ys = ap (λ (es : List Entry). e ∷ es) (filled-append xs ys)

-- how many Alloc-IDs stand before place i
abbrev pub filled_before : Slots → ℕ → ℕ
filled_before slots i = length (filled (take i slots))

-- place i has this Alloc-ID: it is the next of those that stand there
pub record IsNext (slots : Slots) (i : ℕ) (e : Entry) : Type 0 where
  pub within : filled_before slots i < length (filled slots)
  pub here : get_or (filled slots) (filled_before slots i) nowhere ≡ e
  pub more : filled_before slots (i + 1) ≡ filled_before slots i + 1

pub next_filled : (slots : Slots) (i : ℕ) (e : Entry) → i < length slots → get_or slots i None ≡ Some e → IsNext slots i e
next_filled slots i e within is =
    let before : List Entry = filled (take i slots) in
    let after : List Entry = filled (drop (i + 1) slots) in
    let parts : filled slots ≡ before ++ e ∷ after =
    ap filled (sym (take-append-drop i slots) ∙ ap (λ (xs : Slots). take i slots ++ xs) (drop_more slots i None within ∙ ap (λ (o : Option Entry). o ∷ drop (i + 1) slots) is))
    ∙ filled-append (take i slots) (Some e ∷ drop (i + 1) slots) in
    let long = ap length parts ∙ length-append before (e ∷ after) in
    record {
      within = omega arith;
      here = ap (λ (xs : List Entry). get_or xs (length before) nowhere) parts ∙ get_or_at before e after nowhere (length before) refl;
      more = ap (λ (xs : Slots). length (filled xs)) (take_more slots i None within ∙ ap (λ (o : Option Entry). take i slots ++ o ∷ []) is)
          ∙ ap length (filled-append (take i slots) (Some e ∷ []))
          ∙ length_push before e;
    }

pub next_empty : (slots : Slots) (i : ℕ) → i < length slots → get_or slots i None ≡ None → filled_before slots (i + 1) ≡ filled_before slots i
next_empty slots i within is =
    ap (λ (xs : Slots). length (filled xs)) (take_more slots i None within ∙ ap (λ (o : Option Entry). take i slots ++ o ∷ []) is)
    ∙ ap length (filled-append (take i slots) (None ∷ []) ∙ append-nil (filled (take i slots)))

pub filled_all : (slots : Slots) (i : ℕ) → length slots ≤ i → filled_before slots i ≡ length (filled slots)
filled_all slots i whole = ap (λ (xs : Slots). length (filled xs)) (take_all i slots whole)
