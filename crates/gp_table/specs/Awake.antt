-- A unit that was made of its record again, in either phase.
-- Inside: no public contract cites this.
use Rattle.std.specs.Prelude.{◌≡◌}
use Rattle.gp_unit.specs.declared.record.Awake.{Awake}
use Rattle.gp_unit.specs.declared.record.Awake.TheVariants.{Ranging, Operating}
use Rattle.gp_unit.specs.declared.record.Record.{Record}

-- its record
abbrev pub record_awake : Awake → Record
record_awake (Ranging unit) = unit
record_awake (Operating unit) = unit

-- it is operating
abbrev pub IsOperatingAwake : Awake → Type 0
IsOperatingAwake (Ranging unit) = ⊥
IsOperatingAwake (Operating unit) = Unit {0}

-- the same unit, with the same numbers
pub record HasNumbersOf (unit old : Record) : Type 0 where
  pub same_serial_number : unit.serial ≡ old.serial
  pub same_onu : unit.row.onu ≡ old.row.onu
  pub same_allocs : unit.row.allocs ≡ old.row.allocs
