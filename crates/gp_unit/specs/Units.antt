-- The typed units: a record of which the numbers are leased, and what is left of a unit that is no more (G.984.3,
-- clause 10). What becomes of its row stands in Rows.
use Rattle.std.specs.Prelude.{◌≡◌, ℕ, ◌≤◌, Bool, true, Option, None, Some, refl}
use Rattle.std.specs.Coded.{Coded, code_by, coded×, coded_ℕ, coded_bool, coded_option}
use Rattle.std.specs.FinMap as map
use Rattle.gp_ploam.specs.declared.message.Serial.{Serial}
use Rattle.gp_ploam.specs.Serials.{coded_serial}
use Rattle.gp_pools.specs.Allocs.{AllocMap}
use Rattle.gp_pools.specs.Onu.{OnuPool, onus_without_lease}
use Rattle.gp_unit.specs.declared.record.Record.{Record}
use Rattle.gp_unit.specs.Sound.{IsCounted}

-- what a typed unit keeps: the leases are those of the record's numbers, and no count is past its last
pub record IsLeasedUnit (unit : Record) (onu : ℕ) (allocs : AllocMap) : Type 0 where
  pub is_onu : unit.row.onu ≡ onu
  pub are_allocs : unit.row.allocs ≡ allocs
  pub counted : IsCounted unit.row.phase
  pub waits : unit.row.waiting ≤ 2

-- a unit that is no more: its serial number, and the numbers that are to be given up, its ONU-ID if it is among them
pub record RetiredState : Type 0 where
  pub serial : Serial
  pub onu : Option ℕ
  pub allocs : AllocMap

-- it is stored as pairs of its parts
abbrev pub retired_code : Coded RetiredState
retired_code =
    code_by (Serial × (Option ℕ × AllocMap))
    (coded× coded_serial (coded× (coded_option coded_ℕ) (map.code coded_ℕ coded_bool)))
    (λ r. (r.serial, (r.onu, r.allocs))) (λ p. record { serial = p.0; onu = p.1.0; allocs = p.1.1 }) (λ _. refl)

-- a unit that is no more, with all its numbers
abbrev pub retired : Record → RetiredState
retired unit = record { serial = unit.serial; onu = Some unit.row.onu; allocs = unit.row.allocs }

-- what is left of a unit that begins anew with its ONU-ID
abbrev pub left_by_restart : Record → RetiredState
left_by_restart unit = record { serial = unit.serial; onu = None; allocs = unit.row.allocs }

-- the ONU-IDs once a retired unit has given up its own
abbrev pub onus_given_up : OnuPool → Option ℕ → OnuPool
onus_given_up ids None = ids
onus_given_up ids (Some onu) = onus_without_lease ids onu

-- the Alloc-ID that is freed by an Acknowledge: the pending one, where it was leaving
abbrev pub freed_alloc : ℕ → Option Bool → Option ℕ
freed_alloc alloc (Some true) = Some alloc
freed_alloc alloc _ = None
