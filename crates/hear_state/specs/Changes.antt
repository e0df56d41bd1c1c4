-- What becomes of what is kept, where the code says it in steps (this profile's own rule).
-- Inside: no public contract cites this.
use Rattle.std.specs.Prelude.{◌≡◌, ℕ, ◌==◌, ◌&&◌, Bool, true, false, List, map, if◌then◌else◌, set}
use Rattle.std.specs.FinMap.{insert}
use Rattle.gp_ploam.specs.declared.message.Serial.{Serial}
use Rattle.gp_ploam.specs.declared.message.Up.{Up}
use Rattle.gp_ploam.specs.declared.message.Up.TheVariants.{SerialNumber}
use Rattle.gp_ploam.specs.OnuIds.{broadcast_onu}
use Rattle.gp_ploam.specs.Serials.{same_serial}
use Rattle.gp_table.specs.Values.{map_values}
use Rattle.hear_rules.specs.Facts as facts
use Rattle.hear_rules.specs.Known as spec
use Rattle.hear_state.specs.declared.facts.Fact.{Fact}
use Rattle.hear_state.specs.declared.facts.Fact.TheVariants as fact
use Rattle.hear_state.specs.declared.facts.Sure.TheVariants as sure
use Rattle.hear_state.specs.declared.rows.Row.{Row}
use Rattle.hear_state.specs.declared.rows.Row.TheVariants as row
use Rattle.hear_state.specs.declared.index.Followed.{Followed}
use Rattle.hear_state.specs.Facts.{fact_of}
use Rattle.hear_state.specs.Index.{Followeds, changed, released, enabled}
use Rattle.hear_state.specs.Rows.{dropped_row, popped_up_row}
use Rattle.hear_state.specs.Kept.{Kept, row_at, followed_at}

-- a serial number holds this row's ONU-ID
abbrev pub is_held_by : Row → Serial → Bool
is_held_by row.Unheard serial = false
is_held_by row.Nobodys serial = false
is_held_by (row.Of holder delay answers) serial = same_serial serial holder

-- the ONU-ID that a unit held is nobody's
abbrev pub rows_without : List Row → Fact ℕ → List Row
rows_without rows fact.Unknown = rows
rows_without rows fact.Nothing = rows
rows_without rows (fact.Is onu) = set rows onu row.Nobodys

-- who held the ONU-ID of this row holds none
abbrev pub index_without : Followeds → Row → Followeds
index_without index row.Unheard = index
index_without index row.Nobodys = index
index_without index (row.Of holder delay answers) = changed index holder released

-- this is the ONU-ID of a fact
abbrev pub is_at : Fact ℕ → ℕ → Bool
is_at fact.Unknown onu = false
is_at fact.Nothing onu = false
is_at (fact.Is held) onu = onu == held

-- who loses its Alloc-IDs, where a unit leaves the ONU-ID that it held
abbrev pub lost_at : Fact ℕ → ℕ → facts.Sure
lost_at held onu = if is_at held onu then facts.Yes else facts.No

-- the ONU-ID that a unit held, if it is another than this one
abbrev pub other_than : Fact ℕ → ℕ → Fact ℕ
other_than fact.Unknown onu = fact.Unknown
other_than fact.Nothing onu = fact.Nothing
other_than (fact.Is held) onu = if held == onu then fact.Nothing else fact.Is held

-- an ONU-ID is a unit's, and is not who held it before
abbrev pub kept_assigned : Kept → ℕ → Serial → Row → Followed → Kept
kept_assigned kept onu serial row followed =
    record kept {
      rows = set (rows_without kept.rows (followed_at kept serial).holds) onu row;
      followed =
          if is_held_by (row_at kept onu) serial
          then insert kept.followed serial followed
          else index_without (insert kept.followed serial followed) (row_at kept onu);
    }

abbrev pub kept_with_row : Kept → ℕ → Row → Kept
kept_with_row kept onu row = record kept { rows = set kept.rows onu row }

abbrev pub kept_following : Kept → Serial → Followed → Kept
kept_following kept serial followed = record kept { followed = insert kept.followed serial followed }

abbrev pub kept_dropped : Kept → ℕ → Kept
kept_dropped kept onu =
    record kept {
      rows = set kept.rows onu row.Nobodys;
      followed = index_without kept.followed (row_at kept onu);
    }

abbrev pub kept_all_dropped : Kept → Kept
kept_all_dropped kept =
    record kept {
      rows = map dropped_row kept.rows;
      followed = map_values released kept.followed;
      others = released kept.others;
    }

abbrev pub kept_disabled : Kept → Serial → Followed → Kept
kept_disabled kept serial followed =
    record kept {
      rows = rows_without kept.rows (followed_at kept serial).holds;
      followed = insert kept.followed serial followed;
    }

abbrev pub kept_all_enabled : Kept → Kept
kept_all_enabled kept =
    record kept { followed = map_values enabled kept.followed; others = enabled kept.others }

abbrev pub kept_popped_up : Kept → Kept
kept_popped_up kept = record kept { rows = map popped_up_row kept.rows }

-- ---- a serial number, once it is assigned an ONU-ID, disabled, enabled, or asks

pub record IsAssigned (onu : ℕ) (before after : Followed) : Type 0 where
  pub holds : after.holds ≡ fact.Is onu
  pub disabled : after.disabled ≡ before.disabled
  pub asks : after.asks ≡ spec.asks_less (facts.is_other (fact_of before.holds) onu) before.asks
  pub asked : after.asked ≡ sure.No

abbrev pub disabled_serial : Followed → Followed
disabled_serial followed = record followed { holds = fact.Nothing; disabled = sure.Yes }

abbrev pub asking_serial : Followed → Followed
asking_serial followed = record followed { asks = spec.asks_more followed.asks; asked = sure.Yes }

-- ---- a unit's message: what it says of its serial number, and the rest

abbrev pub after_serial : spec.Known → ℕ → Serial → spec.Known
after_serial known onu serial =
    record known {
      asks = λ other.
          if onu == broadcast_onu && same_serial other serial
          then spec.asks_more (known.asks other)
          else known.asks other;
      asked = λ other.
          if same_serial other serial
          then (if onu == broadcast_onu then facts.Yes else spec.was_assigned (known.asked other))
          else known.asked other;
    }

abbrev pub serial_told : spec.Known → Up → spec.Known
serial_told known (SerialNumber onu serial random flags) = after_serial known onu serial
serial_told known _ = known

abbrev pub kept_spoken : Kept → ℕ → Row → Kept
kept_spoken kept onu row = record kept { rows = set kept.rows onu row; up = true }
