-- One unit of the table that has other counts.
use Rattle.std.proofs.Common.{◌≡◌, ℕ, Some, sym, ap, ◌∙◌}
use Rattle.std.proofs.Math.ListN.{set}
use Rattle.std.specs.Ordering.{nat_cmp}
use Rattle.std.specs.FinMap as map
use Rattle.std.specs.FinSet as num
use Rattle.gp_alarms.specs.declared.poll.PollCounts.{PollCounts}
use Rattle.gp_ploam.specs.declared.message.Serial.{Serial}
use Rattle.gp_unit.specs.declared.record.Record.{Record}
use Rattle.gp_unit.specs.declared.row.Row.{Row}
use Rattle.gp_unit.specs.Rows.{is_ranging, row_counted}
use Rattle.gp_unit.specs.Records.{row_of}
use Rattle.gp_unit.proofs.Kept.{counted_still}
use Rattle.gp_table.specs.Rows.{HasRow}
use Rattle.gp_table.specs.Table.{Slots, slot_at, rows_of, key_of_onu, IsKeptTable}
use Rattle.gp_table.proofs.Gets.{same_value}
use Rattle.gp_table.proofs.Tables.{Serials, Onus, IsIndexed, row_there, rows-replace, unique}
use Rattle.gp_table.proofs.Kept.{indexed, kept-recount, written_over, count-written_over}

-- the record with these counts
abbrev pub recounted : Record → PollCounts → Record
recounted unit counts = record unit { row = row_counted unit.row counts }

module _ (slots : Slots) (capacity : ℕ) (serials : Serials) (onus : Onus) (ranging operating : num.FinSet nat_cmp) (key onu : ℕ) (unit : Record) (counts : PollCounts)
    (h : IsKeptTable slots capacity serials onus ranging operating) (at : key_of_onu onus onu ≡ Some key) (slot : slot_at slots key ≡ Some unit)
  where
    same_unit : (h.holder onu key at).unit ≡ unit
    same_unit = same_value (h.holder onu key at).unit unit (sym (h.holder onu key at).slot ∙ slot)

    named : map.get serials unit.serial ≡ Some key
    named = ap (λ (u : Record). map.get serials u.serial) (sym same_unit) ∙ (h.holder onu key at).indexed

    onu_of_unit : unit.row.onu ≡ onu
    onu_of_unit = ap (λ (u : Record). u.row.onu) (sym same_unit) ∙ (h.holder onu key at).is_onu

    unit_there : (h.there unit.serial key named).unit ≡ unit
    unit_there = same_value (h.there unit.serial key named).unit unit (sym (h.there unit.serial key named).slot ∙ slot)

    pub kept-set_counts : IsKeptTable (set slots key (Some (recounted unit counts))) capacity serials onus ranging operating
    kept-set_counts =
        kept-recount slots (set slots key (Some (recounted unit counts))) capacity serials onus ranging operating key (recounted unit counts) h named
        (ap (λ (u : Record). u.row.onu) unit_there)
        (ap (λ (u : Record). is_ranging u.row.phase) unit_there ∙ sym (counted_still unit.row counts).kind)
        (written_over slots key unit (recounted unit counts) slot) (count-written_over slots key unit (recounted unit counts) slot)

    -- `s` and `row` are the unit's, of which the caller speaks
    pub rows-set_counts : (s : Serial) (row : Row) → HasRow (rows_of slots serials) s row → row.onu ≡ onu
        → rows_of (set slots key (Some (recounted unit counts))) serials ≡ map.insert (rows_of slots serials) s (row_counted row counts)
    rows-set_counts s row has is_onu =
        let both : IsIndexed slots serials onus = indexed slots capacity serials onus ranging operating h in
        let there : HasRow (rows_of slots serials) unit.serial (row_of unit) = row_there slots serials unit.serial key unit named slot in
        let same : unit.serial ≡ s = unique slots serials onus unit.serial s (row_of unit) row both there has (onu_of_unit ∙ sym is_onu) in
        let is : row_of unit ≡ row = same_value (row_of unit) row (sym there ∙ ap (map.get (rows_of slots serials)) same ∙ has) in
        rows-replace slots (set slots key (Some (recounted unit counts))) serials onus key (recounted unit counts) both named (written_over slots key unit (recounted unit counts) slot)
        ∙ ap (λ (x : Serial). map.insert (rows_of slots serials) x (row_counted unit.row counts)) same
        ∙ ap (λ (r : Row). map.insert (rows_of slots serials) s (row_counted r counts)) is
