-- What keeps the invariant of the unit table.
use Rattle.std.proofs.Common.{◌≡◌, ℕ, ◌+◌, ◌<◌, ◌≤◌, Bool, true, false, cond, [], replicate, length, inl, inr, Option, None, Some, sym, ap, subst, ◌∙◌, arith}
use Rattle.std.proofs.Math.ListN.{set}
use Rattle.std.proofs.lemmas.Bool.{cases_lt, false≢true}
use Rattle.std.proofs.lemmas.List.{get_or-set_same, get_or-set_other, get_or_past, get_or-replicate}
use Rattle.std.proofs.lemmas.List.Sums.{sum_by-set}
use Rattle.std.specs.Prelude.{count_by, is_some, if◌then◌else◌}
use Rattle.std.specs.Ordering.{nat_cmp}
use Rattle.std.specs.FinMap as map
use Rattle.std.specs.FinSet as num
use Rattle.gp_ploam.specs.declared.message.Serial.{Serial}
use Rattle.gp_ploam.specs.Serials.{serial_cmp}
use Rattle.gp_unit.specs.declared.record.Record.{Record}
use Rattle.std.specs.Option.{option_map}
use Rattle.gp_unit.specs.declared.row.Row.{Row}
use Rattle.gp_unit.specs.Rows.{is_ranging}
use Rattle.gp_unit.specs.Records.{row_of, record_of}
use Rattle.gp_table.specs.Rows.{Rows, HasRow, HasOnuId, IsInPhase}
use Rattle.gp_table.specs.Table.{Slots, slot_at, row_in, rows_of, key_of_onu, IsKeptTable, IsSetOf}
use Rattle.gp_table.proofs.Gets.{len-insert_new, len-remove_known, same_value, no_value}
use Rattle.gp_table.proofs.Values.{len-map_values}
use Rattle.gp_table.proofs.Marks.{IsAlone, marks_ranging-put, marks_operating-put, marks-remove, marks-stay}
use Rattle.gp_table.proofs.Tables.{Serials, Onus, IsIndexed, IsWritten, known, unknown, alone_new, alone_known, row_there, no_row_there, rows-insert, indexed-insert, rows-replace, indexed-replace, rows-remove, indexed-remove}

abbrev pub indexed : (slots : Slots) (capacity : ℕ) (serials : Serials) (onus : Onus) (ranging operating : num.FinSet nat_cmp) → IsKeptTable slots capacity serials onus ranging operating → IsIndexed slots serials onus
indexed slots capacity serials onus ranging operating h = record { places = h.places; there = h.there; holder = h.holder }

pub len-rows : (slots : Slots) (serials : Serials) → map.len (rows_of slots serials) ≡ map.len serials
len-rows slots serials = len-map_values serial_cmp (λ key. row_in (slot_at slots key)) serials

pub kept-insert : (old new : Slots) (capacity : ℕ) (serials : Serials) (onus : Onus) (ranging operating : num.FinSet nat_cmp) (key : ℕ) (unit : Record)
    → IsKeptTable old capacity serials onus ranging operating → slot_at old key ≡ None → IsWritten old new key (Some unit) → count_by is_some new ≡ count_by is_some old + 1
    → map.get (rows_of old serials) unit.serial ≡ None → unit.row.onu ≤ 253 → ((s : Serial) → HasOnuId (rows_of old serials) s unit.row.onu → ⊥)
    → IsKeptTable new capacity (map.insert serials unit.serial key) (set onus unit.row.onu (Some key))
    (if is_ranging unit.row.phase then num.insert ranging unit.row.onu else num.remove ranging unit.row.onu)
    (if is_ranging unit.row.phase then num.remove operating unit.row.onu else num.insert operating unit.row.onu)
kept-insert old new capacity serials onus ranging operating key unit h was written more none low unused =
    let is_new = unknown old serials unit.serial none in
    let both = indexed old capacity serials onus ranging operating h in
    let after = indexed-insert old new serials onus key unit both was written is_new low unused in
    let rows = rows-insert old new serials onus key unit both was written is_new in
    let alone = alone_new (rows_of old serials) unit.serial unit.row.onu none unused in
    let size = len-insert_new serials unit.serial key is_new in
    let counted = h.counted in
    record {
      room = h.room;
      counted = omega arith;
      places = after.places;
      there = after.there;
      holder = after.holder;
      marks_ranging = rw rows (marks_ranging-put (rows_of old serials) unit.serial (row_of unit) alone ranging h.marks_ranging);
      marks_operating = rw rows (marks_operating-put (rows_of old serials) unit.serial (row_of unit) alone operating h.marks_operating);
    }

pub kept-replace : (old new : Slots) (capacity : ℕ) (serials : Serials) (onus : Onus) (ranging operating : num.FinSet nat_cmp) (key : ℕ) (unit : Record)
    → (h : IsKeptTable old capacity serials onus ranging operating) (at : map.get serials unit.serial ≡ Some key) → (h.there unit.serial key at).unit.row.onu ≡ unit.row.onu
    → IsWritten old new key (Some unit) → count_by is_some new ≡ count_by is_some old
    → IsKeptTable new capacity serials onus
    (if is_ranging unit.row.phase then num.insert ranging unit.row.onu else num.remove ranging unit.row.onu)
    (if is_ranging unit.row.phase then num.remove operating unit.row.onu else num.insert operating unit.row.onu)
kept-replace old new capacity serials onus ranging operating key unit h at same_onu written same =
    let both = indexed old capacity serials onus ranging operating h in
    let after = indexed-replace old new serials onus key unit both at written same_onu in
    let rows = rows-replace old new serials onus key unit both at written in
    let there = h.there unit.serial key at in
    let alone = subst (IsAlone (rows_of old serials) unit.serial) same_onu (alone_known old serials onus unit.serial (row_of there.unit) both (row_there old serials unit.serial key there.unit at there.slot)) in
    let counted = h.counted in
    record {
      room = h.room;
      counted = omega arith;
      places = after.places;
      there = after.there;
      holder = after.holder;
      marks_ranging = rw rows (marks_ranging-put (rows_of old serials) unit.serial (row_of unit) alone ranging h.marks_ranging);
      marks_operating = rw rows (marks_operating-put (rows_of old serials) unit.serial (row_of unit) alone operating h.marks_operating);
    }

-- the sets of ONU-IDs stay as they are where the unit stays in its phase
pub kept-recount : (old new : Slots) (capacity : ℕ) (serials : Serials) (onus : Onus) (ranging operating : num.FinSet nat_cmp) (key : ℕ) (unit : Record)
    → (h : IsKeptTable old capacity serials onus ranging operating) (at : map.get serials unit.serial ≡ Some key) → (h.there unit.serial key at).unit.row.onu ≡ unit.row.onu
    → is_ranging (h.there unit.serial key at).unit.row.phase ≡ is_ranging unit.row.phase
    → IsWritten old new key (Some unit) → count_by is_some new ≡ count_by is_some old → IsKeptTable new capacity serials onus ranging operating
kept-recount old new capacity serials onus ranging operating key unit h at same_onu kind written same =
    let both = indexed old capacity serials onus ranging operating h in
    let after = indexed-replace old new serials onus key unit both at written same_onu in
    let rows = rows-replace old new serials onus key unit both at written in
    let there = h.there unit.serial key at in
    let has = row_there old serials unit.serial key there.unit at there.slot in
    let alone = subst (IsAlone (rows_of old serials) unit.serial) same_onu (alone_known old serials onus unit.serial (row_of there.unit) both has) in
    let counted = h.counted in
    record {
      room = h.room;
      counted = omega arith;
      places = after.places;
      there = after.there;
      holder = after.holder;
      marks_ranging = rw rows (marks-stay (rows_of old serials) unit.serial (row_of unit) alone (row_of there.unit) has kind ranging true h.marks_ranging);
      marks_operating = rw rows (marks-stay (rows_of old serials) unit.serial (row_of unit) alone (row_of there.unit) has kind operating false h.marks_operating);
    }

pub kept-remove : (old new : Slots) (capacity : ℕ) (serials : Serials) (onus : Onus) (ranging operating : num.FinSet nat_cmp) (key : ℕ) (s : Serial) (unit : Record)
    → (h : IsKeptTable old capacity serials onus ranging operating) (at : map.get serials s ≡ Some key) (slot : slot_at old key ≡ Some unit) → unit.row.onu ≤ 253
    → IsWritten old new key None → count_by is_some new + 1 ≡ count_by is_some old
    → IsKeptTable new capacity (map.remove serials s) (set onus unit.row.onu None) (num.remove ranging unit.row.onu) (num.remove operating unit.row.onu)
kept-remove old new capacity serials onus ranging operating key s unit h at slot low written less =
    let both = indexed old capacity serials onus ranging operating h in
    let after = indexed-remove old new serials onus key s unit both at slot written low in
    let rows = rows-remove old new serials onus key s unit both at slot written in
    let has = row_there old serials s key unit at slot in
    let alone = alone_known old serials onus s (row_of unit) both has in
    let size = len-remove_known serials s key at in
    let counted = h.counted in
    record {
      room = h.room;
      counted = omega arith;
      places = after.places;
      there = after.there;
      holder = after.holder;
      marks_ranging = rw rows (marks-remove (rows_of old serials) s (row_of unit) ranging true has alone h.marks_ranging);
      marks_operating = rw rows (marks-remove (rows_of old serials) s (row_of unit) operating false has alone h.marks_operating);
    }

-- the ONU-IDs of units are low
pub low_onu : (slots : Slots) (serials : Serials) (onus : Onus) (ranging : Bool) (onu : ℕ) → IsIndexed slots serials onus → IsInPhase (rows_of slots serials) ranging onu → onu ≤ 253
low_onu slots serials onus ranging onu h p =
    let at = known slots serials onus p.serial p.row h p.has in
    let same : at.there.unit.row.onu ≡ onu = ap (λ (r : Row). r.onu) at.is_row ∙ p.is_onu in
    let low = at.there.low in
    omega arith

-- the record at a key of the index is there
pub is_there : (slots : Slots) (serials : Serials) (onus : Onus) (s : Serial) (key : ℕ) → IsIndexed slots serials onus → map.get serials s ≡ Some key → is_some (slot_at slots key) ≡ true
is_there slots serials onus s key h at = ap is_some (h.there s key at).slot

-- a unit's record is the one that its row says
pub is_record_of : (s : Serial) (unit : Record) → unit.serial ≡ s → unit ≡ record_of s (row_of unit)
is_record_of s unit e = ap (λ (t : Serial). record_of t (row_of unit)) e

pub record_there : (slots : Slots) (serials : Serials) (onus : Onus) (s : Serial) (key : ℕ) → IsIndexed slots serials onus → map.get serials s ≡ Some key
    → slot_at slots key ≡ option_map (record_of s) (map.get (rows_of slots serials) s)
record_there slots serials onus s key h at =
    let there = h.there s key at in
    there.slot ∙ ap Some (is_record_of s there.unit there.is_serial) ∙ ap (option_map (record_of s)) (sym (row_there slots serials s key there.unit at there.slot))

pub record_absent : (slots : Slots) (serials : Serials) (s : Serial) → map.get serials s ≡ None → None ≡ option_map (record_of s) (map.get (rows_of slots serials) s)
record_absent slots serials s none = ap (option_map (record_of s)) (sym (no_row_there slots serials s none))

-- the key that the index by ONU-ID has for a unit
pub holds : (slots : Slots) (serials : Serials) (onus : Onus) (s : Serial) (onu : ℕ) → IsIndexed slots serials onus → HasOnuId (rows_of slots serials) s onu
    → (key : ℕ) × (onu ≤ 253) × (key_of_onu onus onu ≡ Some key) × (map.get serials s ≡ Some key)
holds slots serials onus s onu h has =
    let at = known slots serials onus s has.0 h has.1 in
    let same : at.there.unit.row.onu ≡ onu = ap (λ (r : Row). r.onu) at.is_row ∙ has.2 in
    let low = at.there.low in
    (at.key, omega arith, ap (key_of_onu onus) (sym same) ∙ at.there.indexed, at.indexed)

pub holder_has : (slots : Slots) (serials : Serials) (onus : Onus) (onu key : ℕ) (unit : Record) → IsIndexed slots serials onus → key_of_onu onus onu ≡ Some key → slot_at slots key ≡ Some unit
    → (unit.row.onu ≡ onu) × HasRow (rows_of slots serials) unit.serial (row_of unit)
holder_has slots serials onus onu key unit h at slot =
    let holder = h.holder onu key at in
    let is : holder.unit ≡ unit = same_value holder.unit unit (sym holder.slot ∙ slot) in (
      ap (λ (u : Record). u.row.onu) (sym is) ∙ holder.is_onu,
      subst (λ (u : Record). HasRow (rows_of slots serials) u.serial (row_of u)) is (row_there slots serials holder.unit.serial key holder.unit holder.indexed holder.slot),
    )

-- the ONU-ID of a record in the table is low
pub low_unit : (slots : Slots) (serials : Serials) (onus : Onus) (s : Serial) (key : ℕ) (unit : Record) → IsIndexed slots serials onus → map.get serials s ≡ Some key → slot_at slots key ≡ Some unit → unit.row.onu ≤ 253
low_unit slots serials onus s key unit h at slot =
    let there = h.there s key at in
    subst (λ (u : Record). u.row.onu ≤ 253) (same_value there.unit unit (sym there.slot ∙ slot)) there.low

-- a record written over a record
filled_is_one : (slot : Option Record) (unit : Record) → slot ≡ Some unit → ◌≡◌ {A = ℕ} (cond (is_some slot) 1 0) 1
filled_is_one slot unit e = ap (λ (o : Option Record). cond (is_some o) 1 0) e

within_slots : (slots : Slots) (key : ℕ) (unit : Record) → slot_at slots key ≡ Some unit → key < length slots
within_slots slots key unit e = elim (cases_lt key (length slots)) [
  | inl low ↦ low
  | inr high ↦ absurd (no_value unit (sym (get_or_past slots key None high) ∙ e))
]

pub written_over : (slots : Slots) (key : ℕ) (old unit : Record) → slot_at slots key ≡ Some old → IsWritten slots (set slots key (Some unit)) key (Some unit)
written_over slots key old unit e = record {
  here = get_or-set_same slots key (Some unit) None (within_slots slots key old e);
  elsewhere = λ other differs. get_or-set_other slots key other (Some unit) None differs;
}

pub count-written_over : (slots : Slots) (key : ℕ) (old unit : Record) → slot_at slots key ≡ Some old → count_by is_some (set slots key (Some unit)) ≡ count_by is_some slots
count-written_over slots key old unit e =
    let moved = sum_by-set (λ (o : Option Record). cond (is_some o) 1 0) slots key (Some unit) None (within_slots slots key old e) in
    let one = filled_is_one (slot_at slots key) old e in
    omega arith

-- an empty table
pub rows_of_nothing : rows_of [] map.empty ≡ map.empty {K = Serial} {X = Row} {R = serial_cmp}
rows_of_nothing = map.empty_of_len (rows_of [] map.empty) (len-rows [] map.empty ∙ map.len-empty serial_cmp ℕ)

pub kept-empty : (capacity : ℕ) (onus : Onus) → 254 ≤ capacity → length onus ≡ 254 → ((onu : ℕ) → key_of_onu onus onu ≡ None) → IsKeptTable [] capacity map.empty onus num.empty num.empty
kept-empty capacity onus room long none = record {
  room = room;
  counted = sym (map.len-empty serial_cmp ℕ);
  places = long;
  there = λ s k e. absurd (no_value k (sym (map.get-empty serial_cmp s) ∙ e));
  holder = λ onu k e. absurd (no_value k (sym (none onu) ∙ e));
  marks_ranging = nobody true;
  marks_operating = nobody false;
}
  where
    nobody : (ranging : Bool) → IsSetOf num.empty (rows_of [] map.empty) ranging
    nobody ranging = record {
      in_set = λ onu p. absurd (no_value p.row (sym (map.get-empty serial_cmp p.serial) ∙ ap (λ (m : Rows). map.get m p.serial) (sym rows_of_nothing) ∙ p.has));
      of_set = λ onu has. absurd (false≢true (sym (num.contains-empty nat_cmp onu) ∙ has));
    }

pub no_keys : (onus : Onus) → onus ≡ replicate 254 None → (onu : ℕ) → key_of_onu onus onu ≡ None
no_keys onus same onu = elim (cases_lt onu 254) [
  | inl low ↦ ap (λ (xs : Onus). key_of_onu xs onu) same ∙ get_or-replicate 254 onu None None low
  | inr high ↦ get_or_past onus onu None (let long : length onus ≡ 254 = ap length same in omega arith)
]

-- the record that is there has the ONU-ID that the unit has
pub holder_is : (slots : Slots) (serials : Serials) (onus : Onus) (s : Serial) (onu key : ℕ) (h : IsIndexed slots serials onus) → HasOnuId (rows_of slots serials) s onu → (at : map.get serials s ≡ Some key) → (h.there s key at).unit.row.onu ≡ onu
holder_is slots serials onus s onu key h has at =
    let there = h.there s key at in
    ap (λ (r : Row). r.onu) (same_value (row_of there.unit) has.0 (sym (row_there slots serials s key there.unit at there.slot) ∙ has.1)) ∙ has.2
