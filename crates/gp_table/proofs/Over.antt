-- What a unit table stands for, by its slots and its index over the admitted serial numbers.
use Rattle.std.proofs.Common.{◌≡◌, ℕ, Bool, true, false, cond, Option, None, Some, refl, sym, ap, ◌∙◌, is_some, IfSome, IsSome}
use Rattle.std.specs.Option.{option_map}
use Rattle.gp_unit.specs.declared.row.Row.{Row}
use Rattle.gp_table.specs.declared.admission_index.AdmittedSerial.{AdmittedSerial}
use Rattle.gp_table.specs.declared.unit_table.UnitEntry.{UnitEntry}
use Rattle.gp_table.proofs.Admissions.{contains-admitted_of, contains-disabled_of, get-keys_of}
use Rattle.gp_table.proofs.Kept.{is_there}
use Rattle.gp_table.proofs.Tables.{IsIndexed, Onus, get_rows, no_row_there}
use Rattle.std.specs.FinMap as map
use Rattle.std.specs.FinSet as set
use Rattle.gp_ploam.specs.declared.message.Serial.{Serial}
use Rattle.gp_ploam.specs.Serials.{serial_cmp}
use Rattle.gp_table.specs.Index.{Admissions, key_in, disabled_in, admitted_of, disabled_of, keys_of}
use Rattle.gp_table.specs.Rows.{Rows}
use Rattle.gp_table.specs.Table.{Slots, slot_at, row_in, rows_of, units_of}
use Rattle.gp_table.specs.Units.{Units, entry_for}

pub same_rows : (slots : Slots) (m : Admissions) (u : Units) → units_of slots m ≡ u → rows_of slots (keys_of m) ≡ u.rows
same_rows slots m u e = ap (λ (v : Units). v.rows) e

pub same_admitted : (slots : Slots) (m : Admissions) (u : Units) → units_of slots m ≡ u → admitted_of m ≡ u.admitted
same_admitted slots m u e = ap (λ (v : Units). v.admitted) e

pub same_disabled : (slots : Slots) (m : Admissions) (u : Units) → units_of slots m ≡ u → disabled_of m ≡ u.disabled
same_disabled slots m u e = ap (λ (v : Units). v.disabled) e

pub units_are : (slots : Slots) (m : Admissions) (u : Units) → admitted_of m ≡ u.admitted → rows_of slots (keys_of m) ≡ u.rows → disabled_of m ≡ u.disabled → units_of slots m ≡ u
units_are slots m u a r d =
    ap (λ (x : set.FinSet serial_cmp). let v : Units = record { admitted = x; rows = rows_of slots (keys_of m); disabled = disabled_of m } in v) a
    ∙ ap (λ (x : Rows). let v : Units = record { admitted = u.admitted; rows = x; disabled = disabled_of m } in v) r
    ∙ ap (λ (x : set.FinSet serial_cmp). let v : Units = record { admitted = u.admitted; rows = u.rows; disabled = x } in v) d

-- what is looked up
pub entry_is : (slots : Slots) (m : Admissions) (u : Units) (s : Serial) (row : Option Row) → units_of slots m ≡ u → (a : AdmittedSerial) → map.get m s ≡ Some a → row ≡ map.get (rows_of slots (keys_of m)) s → Some (record { disabled = a.disabled; row = row }) ≡ entry_for u s
entry_is slots m u s row is a has got =
    let admitted : set.contains u.admitted s ≡ true = ap (λ x. set.contains x s) (sym (same_admitted slots m u is)) ∙ contains-admitted_of m s ∙ ap is_some has in
    let disabled : a.disabled ≡ set.contains u.disabled s = sym (ap disabled_in has) ∙ sym (contains-disabled_of m s) ∙ ap (λ x. set.contains x s) (same_disabled slots m u is) in
    ap (λ (d : Bool). let e : UnitEntry = record { disabled = d; row = row } in Some e) disabled
    ∙ ap (λ (r : Option Row). let e : UnitEntry = record { disabled = set.contains u.disabled s; row = r } in Some e) (got ∙ ap (λ (rs : Rows). map.get rs s) (same_rows slots m u is))
    ∙ ap (λ (b : Bool). cond b (Some (record { disabled = set.contains u.disabled s; row = map.get u.rows s })) None) (sym admitted)

pub entry_is_none : (slots : Slots) (m : Admissions) (u : Units) (s : Serial) → units_of slots m ≡ u → map.get m s ≡ None → None ≡ entry_for u s
entry_is_none slots m u s is none =
    let foreign : set.contains u.admitted s ≡ false = ap (λ x. set.contains x s) (sym (same_admitted slots m u is)) ∙ contains-admitted_of m s ∙ ap is_some none in
    ap (λ (b : Bool). cond b (Some (record { disabled = set.contains u.disabled s; row = map.get u.rows s })) None) (sym foreign)

-- the row of a key that the index has
pub row_got : (slots : Slots) (m : Admissions) (s : Serial) (a : AdmittedSerial) → map.get m s ≡ Some a → option_map (λ key. row_in (slot_at slots key)) a.key ≡ map.get (rows_of slots (keys_of m)) s
row_got slots m s a has = sym (get_rows slots (keys_of m) s ∙ ap (option_map (λ key. row_in (slot_at slots key))) (get-keys_of m s ∙ ap key_in has))

pub no_row_got : (slots : Slots) (m : Admissions) (s : Serial) → map.get m s ≡ None → None ≡ map.get (rows_of slots (keys_of m)) s
no_row_got slots m s none = sym (no_row_there slots (keys_of m) s (get-keys_of m s ∙ ap key_in none))

-- each key that the index has is that of a record
pub keys_filled : (slots : Slots) (m : Admissions) (onus : Onus) (s : Serial) (a : AdmittedSerial) → IsIndexed slots (keys_of m) onus → map.get m s ≡ Some a → IfSome a.key (λ key. IsSome (slot_at slots key))
keys_filled slots m onus s a h has = by_key a.key refl
  where
    by_key : (o : Option ℕ) → a.key ≡ o → IfSome o (λ key. IsSome (slot_at slots key))
    by_key None e = tt
    by_key (Some key) e = is_there slots (keys_of m) onus s key h (get-keys_of m s ∙ ap key_in has ∙ e)
