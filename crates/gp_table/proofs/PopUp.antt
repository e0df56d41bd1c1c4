-- POPUP to all: what it does to the rows, and how many it changes.
use Rattle.std.proofs.Common.{◌≡◌, ℕ, ◌+◌, ◌≤◌, Bool, true, false, not, cond, List, [], ◌∷◌, length, map, Option, None, Some, inl, inr, refl, sym, ap, subst, ◌∙◌, arith, ◌⊎◌, ◌&&◌}
use Rattle.std.proofs.lemmas.Bool.{cases_Bool, false≢true}
use Rattle.std.proofs.lemmas.List.Sums.{sum_by-cons, count_by-le-length}
use Rattle.std.specs.Prelude.{T, sum_by}
use Rattle.std.specs.Option.{option_map}
use Rattle.std.specs.declared.cmp.Ordering.{Ordering}
use Rattle.std.specs.declared.cmp.Ordering.TheVariants.{Less, Equal, Greater}
use Rattle.std.specs.Ordering.{is_lt, is_eq, eq_by_cmp}
use Rattle.std.specs.FinMap as fin
use Rattle.std.specs.FinMap.Entries.{below_all, by_order}
use Rattle.gp_ploam.specs.declared.message.Serial.{Serial}
use Rattle.gp_ploam.specs.Serials.{serial_cmp, same_serial}
use Rattle.gp_ploam.proofs.Serials.{serials_total, serials_exact, by_cmp-same, same_serial-true, same_serial-itself}
use Rattle.gp_unit.specs.declared.row.Phase.{Phase}
use Rattle.gp_unit.specs.declared.row.Phase.TheVariants.{Ranging, Operating}
use Rattle.gp_unit.specs.declared.row.Row.{Row}
use Rattle.gp_unit.specs.Rows.{is_ranging}
use Rattle.gp_table.specs.Rows.{Rows, HasRow, IsInPhase, popped_phase, popped_row, popped_rows, is_operating, count_operating}
use Rattle.gp_table.proofs.Gets.{get-insert_same, get-insert_other, same_value, no_value}
use Rattle.gp_table.proofs.Values.{get-map_values}

popped_twice : (p : Phase) → popped_phase (popped_phase p) ≡ popped_phase p
popped_twice (Ranging attempts seen) = refl
popped_twice (Operating eqd dark garbled) = refl

popped_ranges : (p : Phase) → is_ranging (popped_phase p) ≡ true
popped_ranges (Ranging attempts seen) = refl
popped_ranges (Operating eqd dark garbled) = refl

ranging_stays : (p : Phase) → is_ranging p ≡ true → popped_phase p ≡ p
ranging_stays (Ranging attempts seen) e = refl
ranging_stays (Operating eqd dark garbled) e = absurd (false≢true e)

with_phase : (row : Row) (p q : Phase) → p ≡ q → ◌≡◌ {A = Row} (record row { phase = p }) (record row { phase = q })
with_phase row p q e = ap (λ (x : Phase). let r : Row = record row { phase = x } in r) e

get-popped : (rows : Rows) (q : Serial) → fin.get (popped_rows rows) q ≡ option_map popped_row (fin.get rows q)
get-popped rows q = get-map_values serial_cmp popped_row rows q

-- one that is popped up already
pub popped_after_one : (rows : Rows) (s : Serial) (row : Row) → HasRow rows s row → popped_rows (fin.insert rows s (popped_row row)) ≡ popped_rows rows
popped_after_one rows s row has = fin.same_map serials_total serials_exact _ _ (λ q. by_test q (cases_Bool (same_serial q s)))
  where
    by_test : (q : Serial) → (same_serial q s ≡ true) ⊎ (same_serial q s ≡ false) → fin.get (popped_rows (fin.insert rows s (popped_row row))) q ≡ fin.get (popped_rows rows) q
    by_test q (inl t) =
        subst (λ (x : Serial). fin.get (popped_rows (fin.insert rows s (popped_row row))) x ≡ fin.get (popped_rows rows) x) (sym (same_serial-true q s t))
        (get-popped (fin.insert rows s (popped_row row)) s ∙ ap (option_map popped_row) (get-insert_same rows s (popped_row row))
        ∙ ap Some (with_phase row (popped_phase (popped_phase row.phase)) (popped_phase row.phase) (popped_twice row.phase))
        ∙ ap (option_map popped_row) (sym has) ∙ sym (get-popped rows s))
    by_test q (inr f) =
        get-popped (fin.insert rows s (popped_row row)) q ∙ ap (option_map popped_row) (get-insert_other rows s (popped_row row) q f) ∙ sym (get-popped rows q)

-- where nobody operates nothing changes
pub popped_none : (rows : Rows) → ((s : Serial) (row : Row) → HasRow rows s row → is_ranging row.phase ≡ true) → rows ≡ popped_rows rows
popped_none rows all = fin.same_map serials_total serials_exact _ _ (λ q. by_row q (fin.get rows q) refl ∙ sym (get-popped rows q))
  where
    by_row : (q : Serial) (o : Option Row) → fin.get rows q ≡ o → fin.get rows q ≡ option_map popped_row (fin.get rows q)
    by_row q None e = e ∙ ap (option_map popped_row) (sym e)
    by_row q (Some row) e = e ∙ ap Some (sym (with_phase row (popped_phase row.phase) row.phase (ranging_stays row.phase (all q row e)))) ∙ ap (option_map popped_row) (sym e)

pub nobody_operates : (rows : Rows) → ((onu : ℕ) → IsInPhase rows false onu → ⊥) → (s : Serial) (row : Row) → HasRow rows s row → is_ranging row.phase ≡ true
nobody_operates rows none s row has = elim (cases_Bool (is_ranging row.phase)) [
  | inl t ↦ t
  | inr f ↦ absurd (none row.onu (record { serial = s; row = row; has = has; phase = f; is_onu = refl }))
]

-- ---- how many

abbrev one : Row → ℕ
one row = cond (is_operating row) 1 0

abbrev Entries : Type 0
Entries = List (Serial × Row)

abbrev rows_in : Entries → List Row
rows_in es = map (λ e. e.1) es

abbrev find : Serial → Entries → Option Row
find s es = fin.find serial_cmp s es

both_left : (a b : Bool) → T (a && b) → T a
both_left true b p = tt
both_left false b p = p

both_right : (a b : Bool) → T (a && b) → T b
both_right true b p = p
both_right false b p = absurd p

is_less : (o : Ordering) → T (is_lt o) → o ≡ Less
is_less Less p = refl
is_less Equal p = absurd p
is_less Greater p = absurd p

-- a serial number below all keys is not found
below_none : (s : Serial) (es : Entries) → T (below_all serial_cmp s es) → find s es ≡ None
below_none s [] h = refl
below_none s (e ∷ es) h =
    ap (λ r. cond (is_eq r) (Some e.1) (find s es)) (is_less (serial_cmp s e.0) (both_left _ _ h)) ∙ below_none s es (both_right _ _ h)

less_below : (s t : Serial) (es : Entries) → serial_cmp s t ≡ Less → T (below_all serial_cmp t es) → T (below_all serial_cmp s es)
less_below s t [] p h = tt
less_below s t (e ∷ es) p h =
    let first : serial_cmp s e.0 ≡ Less = serials_total.trans s t e.0 p (is_less (serial_cmp t e.0) (both_left _ _ h)) in
    subst (λ r. T (is_lt r && below_all serial_cmp s es)) (sym first) (less_below s t es p (both_right _ _ h))

-- a row put in the place of another
sum-put : (s : Serial) (old new : Row) (es : Entries) → T (fin.is_sorted serial_cmp es) → find s es ≡ Some old
    → sum_by one (rows_in (fin.put serial_cmp s new es)) + one old ≡ sum_by one (rows_in es) + one new
sum-put s old new [] h has = absurd (no_value old has)
sum-put s old new (e ∷ es) h has =
    elim (serial_cmp s e.0) as (λ r. serial_cmp s e.0 ≡ r → sum_by one (rows_in (by_order r ((s, new) ∷ e ∷ es) ((e.0, new) ∷ es) (e ∷ fin.put serial_cmp s new es))) + one old ≡ sum_by one (rows_in (e ∷ es)) + one new) [
      | Less ↦ λ p.
          absurd (no_value old (sym (ap (λ r. cond (is_eq r) (Some e.1) (find s es)) p ∙ below_none s es (less_below s e.0 es p (both_left _ _ h))) ∙ has))
      | Equal ↦ λ p.
          let same : e.1 ≡ old = same_value e.1 old (sym (ap (λ r. cond (is_eq r) (Some e.1) (find s es)) p) ∙ has) in
          let was = sum_by-cons one e.1 (rows_in es) in
          let is = sum_by-cons one new (rows_in es) in
          let o : one e.1 ≡ one old = ap (λ (r : Row). one r) same in
          omega arith
      | Greater ↦ λ p.
          let later = sum-put s old new es (both_right _ _ h) (sym (ap (λ r. cond (is_eq r) (Some e.1) (find s es)) p) ∙ has) in
          let was = sum_by-cons one e.1 (rows_in es) in
          let is = sum_by-cons one e.1 (rows_in (fin.put serial_cmp s new es)) in
          omega arith
    ] refl

pub count_after_one : (rows : Rows) (s : Serial) (row : Row) → HasRow rows s row → is_ranging row.phase ≡ false → count_operating (fin.insert rows s (popped_row row)) + 1 ≡ count_operating rows
count_after_one rows s row has operating =
    let moved = sum-put s row (popped_row row) (fin.entries rows) (fin.entries_sorted rows) (sym (fin.get-entries rows s) ∙ has) in
    let was : one row ≡ 1 = ap (λ b. cond (not b) 1 0) operating in
    let is : one (popped_row row) ≡ 0 = ap (λ b. cond (not b) 1 0) (popped_ranges row.phase) in
    let new : count_operating (fin.insert rows s (popped_row row)) ≡ sum_by one (rows_in (fin.put serial_cmp s (popped_row row) (fin.entries rows))) = ap (λ (es : Entries). sum_by one (rows_in es)) (fin.entries-insert serials_total rows s (popped_row row)) in
    omega arith

-- none of a list
none_in : (es : Entries) → T (fin.is_sorted serial_cmp es) → ((s : Serial) (row : Row) → find s es ≡ Some row → is_ranging row.phase ≡ true) → sum_by one (rows_in es) ≡ 0
none_in [] h all = refl
none_in (e ∷ es) h all =
    let first : find e.0 (e ∷ es) ≡ Some e.1 = ap (λ b. cond b (Some e.1) (find e.0 es)) (ties e.0) in
    let zero : one e.1 ≡ 0 = ap (λ b. cond (not b) 1 0) (all e.0 e.1 first) in
    let rest = none_in es (both_right _ _ h) (λ s row has. all s row (later s row has)) in
    let whole = sum_by-cons one e.1 (rows_in es) in
    omega arith
  where
    ties : (s : Serial) → eq_by_cmp serial_cmp s s ≡ true
    ties s = by_cmp-same s s ∙ same_serial-itself s

    later : (s : Serial) (row : Row) → find s es ≡ Some row → find s (e ∷ es) ≡ Some row
    later s row has = elim (cases_Bool (same_serial s e.0)) [
      | inl t ↦ absurd (no_value row (sym (subst (λ (x : Serial). find x es ≡ None) (sym (same_serial-true s e.0 t)) (below_none e.0 es (both_left _ _ h))) ∙ has))
      | inr f ↦ ap (λ b. cond b (Some e.1) (find s es)) (by_cmp-same s e.0 ∙ f) ∙ has
    ]

pub count_none : (rows : Rows) → ((s : Serial) (row : Row) → HasRow rows s row → is_ranging row.phase ≡ true) → count_operating rows ≡ 0
count_none rows all = none_in (fin.entries rows) (fin.entries_sorted rows) (λ s row has. all s row (fin.get-entries rows s ∙ has))

-- where none is counted none operates
some_in : (s : Serial) (row : Row) (es : Entries) → find s es ≡ Some row → one row ≤ sum_by one (rows_in es)
some_in s row [] has = absurd (no_value row has)
some_in s row (e ∷ es) has =
    let whole = sum_by-cons one e.1 (rows_in es) in
    elim (cases_Bool (same_serial s e.0)) [
      | inl t ↦
          let same : e.1 ≡ row = same_value e.1 row (sym (ap (λ b. cond b (Some e.1) (find s es)) (by_cmp-same s e.0 ∙ t)) ∙ has) in
          let o : one e.1 ≡ one row = ap (λ (r : Row). one r) same in
          omega arith
      | inr f ↦
          let rest = some_in s row es (sym (ap (λ b. cond b (Some e.1) (find s es)) (by_cmp-same s e.0 ∙ f)) ∙ has) in
          omega arith
    ]

pub all_range : (rows : Rows) → count_operating rows ≡ 0 → (s : Serial) (row : Row) → HasRow rows s row → is_ranging row.phase ≡ true
all_range rows none s row has = elim (cases_Bool (is_ranging row.phase)) [
  | inl t ↦ t
  | inr f ↦
      let counted = some_in s row (fin.entries rows) (sym (fin.get-entries rows s) ∙ has) in
      let is : one row ≡ 1 = ap (λ b. cond (not b) 1 0) f in
      absurd (omega arith)
]

pub count_at_most : (rows : Rows) → count_operating rows ≤ fin.len rows
count_at_most rows =
    let few = count_by-le-length is_operating (rows_in (fin.entries rows)) in
    let long = length-rows (fin.entries rows) in
    let size = fin.len-entries rows in
    omega arith
  where
    length-rows : (es : Entries) → length (rows_in es) ≡ length es
    length-rows [] = refl
    length-rows (e ∷ es) = let rest = length-rows es in omega arith
