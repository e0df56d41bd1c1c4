-- One operating unit of the table that ranges from the start.
use Rattle.std.proofs.Common.{◌≡◌, ℕ, ◌≤◌, false, Option, None, Some, refl, sym, ap, subst, ◌∙◌, arith, length, get_or}
use Rattle.std.proofs.Math.ListN.{set}
use Rattle.std.proofs.lemmas.Bool.{false≢true}
use Rattle.std.proofs.lemmas.List.{get_or_default}
use Rattle.std.specs.Ordering.{nat_cmp}
use Rattle.std.specs.FinMap as map
use Rattle.std.specs.FinSet as num
use Rattle.gp_unit.specs.declared.row.Phase.{Phase}
use Rattle.gp_unit.specs.declared.row.Phase.TheVariants.{Ranging, Operating}
use Rattle.gp_unit.specs.declared.record.Record.{Record}
use Rattle.gp_unit.specs.declared.row.Row.{Row}
use Rattle.gp_unit.specs.Rows.{is_ranging}
use Rattle.gp_unit.specs.Records.{row_of}
use Rattle.gp_table.specs.Rows.{IsInPhase, PopsUpOne, popped_phase, popped_row}
use Rattle.gp_table.specs.Table.{Slots, slot_at, rows_of, key_of_onu, IsKeptTable}
use Rattle.gp_table.proofs.Gets.{same_value}
use Rattle.gp_table.proofs.Tables.{Serials, Onus, row_there, rows-replace, unique}
use Rattle.gp_table.proofs.Kept.{indexed, kept-replace, written_over, count-written_over}

-- the record with its unit ranging from the start
abbrev pub popped : Record → Record
popped unit = record unit { row = record unit.row { phase = Ranging 0 false } }

-- the key that was read from the index
pub key_read : (onus : Onus) (onu place : ℕ) (got : Option ℕ) → length onus ≡ 254 → onu ≤ 253 → place ≡ onu → got ≡ get_or onus place got → got ≡ key_of_onu onus onu
key_read onus onu place got long low is e = e ∙ get_or_default onus place got None (omega arith) ∙ ap (key_of_onu onus) is

popped_operating : (p : Phase) → is_ranging p ≡ false → popped_phase p ≡ Ranging 0 false
popped_operating (Ranging attempts seen) e = absurd (false≢true (sym e))
popped_operating (Operating eqd dark garbled) e = refl

module _ (slots : Slots) (capacity : ℕ) (serials : Serials) (onus : Onus) (ranging operating : num.FinSet nat_cmp) (key onu : ℕ) (unit : Record)
    (h : IsKeptTable slots capacity serials onus ranging operating) (at : key_of_onu onus onu ≡ Some key) (slot : slot_at slots key ≡ Some unit)
  where
    same_unit : (h.holder onu key at).unit ≡ unit
    same_unit = same_value (h.holder onu key at).unit unit (sym (h.holder onu key at).slot ∙ slot)

    named : map.get serials unit.serial ≡ Some key
    named = ap (λ (u : Record). map.get serials u.serial) (sym same_unit) ∙ (h.holder onu key at).indexed

    onu_of_unit : unit.row.onu ≡ onu
    onu_of_unit = ap (λ (u : Record). u.row.onu) (sym same_unit) ∙ (h.holder onu key at).is_onu

    onu_there : (h.there unit.serial key named).unit.row.onu ≡ unit.row.onu
    onu_there = ap (λ (u : Record). u.row.onu) (same_value (h.there unit.serial key named).unit unit (sym (h.there unit.serial key named).slot ∙ slot))

    pub kept-pop_up : IsKeptTable (set slots key (Some (popped unit))) capacity serials onus (num.insert ranging onu) (num.remove operating onu)
    kept-pop_up =
        subst (λ n. IsKeptTable (set slots key (Some (popped unit))) capacity serials onus (num.insert ranging n) (num.remove operating n)) onu_of_unit
        (kept-replace slots (set slots key (Some (popped unit))) capacity serials onus ranging operating key (popped unit) h named onu_there
        (written_over slots key unit (popped unit) slot) (count-written_over slots key unit (popped unit) slot))

    pub pops_up : IsInPhase (rows_of slots serials) false onu → PopsUpOne (rows_of slots serials) (rows_of (set slots key (Some (popped unit))) serials)
    pops_up p =
        let has = row_there slots serials unit.serial key unit named slot in
        let both = indexed slots capacity serials onus ranging operating h in
        let same : p.serial ≡ unit.serial = unique slots serials onus p.serial unit.serial p.row (row_of unit) both p.has has (p.is_onu ∙ sym onu_of_unit) in
        let is : p.row ≡ row_of unit = same_value p.row (row_of unit) (sym p.has ∙ ap (map.get (rows_of slots serials)) same ∙ has) in
        let phase : is_ranging unit.row.phase ≡ false = ap (λ (r : Row). is_ranging r.phase) (sym is) ∙ p.phase in
        let row : row_of (popped unit) ≡ popped_row (row_of unit) = ap (λ (x : Phase). let r : Row = record (row_of unit) { phase = x } in r) (sym (popped_operating unit.row.phase phase)) in
        record {
          serial = unit.serial;
          row = row_of unit;
          has = has;
          operating = phase;
          after = rows-replace slots (set slots key (Some (popped unit))) serials onus key (popped unit) both named (written_over slots key unit (popped unit) slot)
              ∙ ap (map.insert (rows_of slots serials) unit.serial) row;
        }
