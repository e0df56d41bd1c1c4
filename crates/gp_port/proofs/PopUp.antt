-- POPUP to all, as the unit table tells it, in the machine's words.
use Rattle.std.proofs.Common.{◌≡◌, ℕ, ◌+◌, true, false, cond, List, [], ◌∷◌, map, refl, sym, ap, ◌∙◌, arith}
use Rattle.std.proofs.lemmas.List.Sums.{sum_by-cons}
use Rattle.std.specs.Prelude.{count_by, if◌then◌else◌}
use Rattle.std.specs.FinMap as fin
use Rattle.gp_ploam.specs.declared.message.Serial.{Serial}
use Rattle.gp_ploam.specs.Serials.{serial_cmp}
use Rattle.gp_unit.specs.declared.row.Phase.{Phase}
use Rattle.gp_unit.specs.declared.row.Phase.TheVariants.{Ranging, Operating}
use Rattle.gp_unit.specs.declared.row.Row.{Row}
use Rattle.gp_unit.specs.Rows.{is_operating, row_popped_up}
use Rattle.gp_machine.specs.State.{Rows, rows_mapped, count_rows}
use Rattle.gp_table.specs.Values.{map_values}
use Rattle.gp_table.specs.Rows as table

-- ---- the rows

map-alike : {A B : Type 0} (f g : A → B) → ((x : A) → f x ≡ g x) → (xs : List A) → map f xs ≡ map g xs
map-alike f g alike [] = refl
map-alike {B = B} f g alike (x ∷ xs) = ap (λ (y : B). y ∷ map f xs) (alike x) ∙ ap (λ (ys : List B). g x ∷ ys) (map-alike f g alike xs)

popped_row_is : (row : Row) → table.popped_row row ≡ row_popped_up row row.phase
popped_row_is row = by_phase row.phase
  where
    by_phase : (p : Phase) → ◌≡◌ {A = Row} (record row { phase = table.popped_phase p }) (row_popped_up (record row { phase = p }) p)
    by_phase (Ranging attempts seen) = refl
    by_phase (Operating eqd dark garbled) = refl

pub popped_rows_are : (rows : Rows) → table.popped_rows rows ≡ rows_mapped (λ row. row_popped_up row row.phase) rows
unfolding map_values rows_mapped
popped_rows_are rows = ap (fin.from_sorted {R = serial_cmp})
    (map-alike (λ (e : Serial × Row). let f : Serial × Row = (e.0, table.popped_row e.1) in f) (λ (e : Serial × Row). let f : Serial × Row = (e.0, row_popped_up e.1 e.1.phase) in f)
    (λ e. ap (λ (row : Row). let f : Serial × Row = (e.0, row) in f) (popped_row_is e.1)) (fin.entries rows))

-- ---- how many operate

operating_is : (row : Row) → table.is_operating row ≡ is_operating row.phase
operating_is row = by_phase row.phase
  where
    by_phase : (p : Phase) → table.is_operating (record row { phase = p }) ≡ is_operating p
    by_phase (Ranging attempts seen) = refl
    by_phase (Operating eqd dark garbled) = refl

-- the count of the machine, over any entries
abbrev counted : List (Serial × Row) → ℕ
counted [] = 0
counted (e ∷ es) = if is_operating e.1.phase then counted es + 1 else counted es

counted_is : (rows : Rows) → count_rows (λ row. is_operating row.phase) rows ≡ counted (fin.entries rows)
unfolding count_rows
counted_is rows = refl

count_in : (es : List (Serial × Row)) → count_by table.is_operating (map (λ e. e.1) es) ≡ counted es
count_in [] = refl
count_in (e ∷ es) =
    let rest = count_in es in
    let whole = sum_by-cons (λ (row : Row). cond (table.is_operating row) 1 0) e.1 (map (λ e. e.1) es) in
    let one : ◌≡◌ {A = ℕ} (cond (table.is_operating e.1) 1 0) (cond (is_operating e.1.phase) 1 0) = ap (λ b. cond b 1 0) (operating_is e.1) in
    let last : ◌≡◌ {A = ℕ} (cond (is_operating e.1.phase) 1 0 + counted es) (cond (is_operating e.1.phase) (counted es + 1) (counted es)) =
    elim (is_operating e.1.phase) as (λ b. ◌≡◌ {A = ℕ} (cond b 1 0 + counted es) (cond b (counted es + 1) (counted es))) [ true ↦ omega arith | false ↦ omega arith ] in
    omega (arith, whole, rest, one, last)

pub count_is : (rows : Rows) → table.count_operating rows ≡ count_rows (λ row. is_operating row.phase) rows
count_is rows = count_in (fin.entries rows) ∙ sym (counted_is rows)
