-- What the unit table answers, in the machine's words.
use Rattle.std.proofs.Common.{◌≡◌, ℕ, true, Option, None, Some, inl, refl, sym, ap, subst}
use Rattle.std.specs.FinMap.{get}
use Rattle.std.specs.Option.{option_map}
use Rattle.std.proofs.lemmas.Bool.{eqb-true}
use Rattle.std.specs.Prelude.{false, ◌==◌}
use Rattle.gp_ploam.specs.declared.message.Serial.{Serial}
use Rattle.gp_unit.specs.declared.row.Row.{Row}
use Rattle.gp_unit.specs.declared.record.Record.{Record}
use Rattle.gp_unit.specs.Records.{record_of}
use Rattle.gp_unit.specs.Rows.{is_ranging, is_operating}
use Rattle.gp_unit.specs.Sound.{IsSoundRow}
use Rattle.gp_machine.specs.Sound.{IsSound}
use Rattle.gp_machine.specs.State.{PortState, Rows, HasRow, unit_with, Operates}
use Rattle.gp_machine.proofs.Units.{found}
use Rattle.gp_table.specs.Rows as table
use Rattle.gp_table.proofs.NextPoll.{not_ranging}

none_is_not_some : (u : Record) → None ≡ Some u → ⊥
none_is_not_some u e = cc

-- what `get` found
pub row_found : (o : Option Row) (s : Serial) (u : Record) → Some u ≡ option_map (record_of s) o → Some u.row ≡ o
row_found None s u e = absurd (none_is_not_some u (sym e))
row_found (Some row) s u e = ap (option_map (λ (r : Record). r.row)) e

pub none_found : (o : Option Row) (s : Serial) → None ≡ option_map (record_of s) o → None ≡ o
none_found None s e = refl
none_found (Some row) s e = absurd (none_is_not_some (record_of s row) e)

-- no unit with the ONU-ID
pub nobody : (rows : Rows) (onu : ℕ) → ((s : Serial) → table.HasOnuId rows s onu → ⊥) → None ≡ unit_with rows onu
nobody rows onu none = by_unit (unit_with rows onu) refl
  where
    by_unit : (o : Option (Serial × Row)) → unit_with rows onu ≡ o → None ≡ unit_with rows onu
    by_unit None e = sym e
    by_unit (Some (s, row)) e = let f = found rows (λ (r : Row). r.onu == onu) s row e in absurd (none s (row, f.0, eqb-true row.onu onu f.1))

-- ---- the unit that a window asks

same_row : (o : Option Row) (row its : Row) → o ≡ Some row → o ≡ Some its → row ≡ its
same_row o row its h k = cc

-- the unit with an ONU-ID that an operating unit has is operating
pub is_asked : (p : PortState) (s : Serial) (row : Row) → IsSound p → HasRow p.rows s row → Operates p.rows row.onu → is_ranging row.phase ≡ false
is_asked p s row sound has asked =
    let same : asked.0 ≡ s = sound.units.apart asked.0 s asked.1 row asked.2 has (inl asked.4) in
    let there : HasRow p.rows s asked.1 = subst (λ (t : Serial). HasRow p.rows t asked.1) same asked.2 in
    let rows : asked.1 ≡ row = same_row (get p.rows s) asked.1 row there has in
    not_ranging row.phase (subst (λ (r : Row). is_operating r.phase ≡ true) rows asked.3)

-- what is true of the unit's row is true of each row that it has
pub each_fits : (rows : Rows) (s : Serial) (last : ℕ) (row : Row) → HasRow rows s row → IsSoundRow last row → (its : Row) → HasRow rows s its → IsSoundRow last its
each_fits rows s last row has fits its there = subst (λ (r : Row). IsSoundRow last r) (same_row (get rows s) row its has there) fits

-- the unit that a poll window asks is operating
pub asked_by : (p : PortState) (s : Serial) (row : Row) (onu : ℕ) → IsSound p → unit_with p.rows onu ≡ Some (s, row) → Operates p.rows onu → is_ranging row.phase ≡ false
asked_by p s row onu sound is asked =
    let f = found p.rows (λ (r : Row). r.onu == onu) s row is in
    is_asked p s row sound f.0 (subst (λ (n : ℕ). Operates p.rows n) (sym (eqb-true row.onu onu f.1)) asked)
