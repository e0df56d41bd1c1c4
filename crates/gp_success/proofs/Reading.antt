-- A code is read as the message that was written into it; the row of an ONU-ID.
use Rattle.std.proofs.Common.{◌≡◌, ℕ, ◌==◌, Option, None, Some, refl, sym, ap, ◌∙◌}
use Rattle.std.specs.FinMap.{empty, get-empty}
use Rattle.std.proofs.lemmas.Bool.{eq-eqb, eqb-true, false≢true}
use Rattle.gp_ploam.specs.declared.message.Serial.{Serial}
use Rattle.gp_ploam.specs.declared.message.Up.{Up}
use Rattle.gp_ploam.specs.Serials.{serial_cmp}
use Rattle.gp_ploam.specs.Up.{IsProperUp, ReadsUp, code_of_up}
use Rattle.gp_unit.specs.declared.row.Row.{Row}
use Rattle.gp_machine.specs.State.{Rows, HasRow, unit_with}
use Rattle.gp_machine.proofs.Units.{found, none_passes}

-- a message is read as it was written
abbrev pub RoundTrip : Type 0
RoundTrip = (m : Up) (mask : ℕ) → IsProperUp m → ReadsUp (code_of_up m mask) mask m

-- an empty table has no row
pub no_row : (t : Serial) (q : Row) → HasRow empty t q → ⊥
no_row t q has = none (sym (get-empty serial_cmp t) ∙ has)
  where
    none : ◌≡◌ {A = Option Row} None (Some q) → ⊥
    none e = cc

-- the unit with an ONU-ID that no other has
pub finds_it : (rows : Rows) (s : Serial) (row : Row) → HasRow rows s row → ((t : Serial) (q : Row) → HasRow rows t q → q.onu ≡ row.onu → (t ≡ s) × (row ≡ q)) → unit_with rows row.onu ≡ Some (s, row)
finds_it rows s row has one = by_found (unit_with rows row.onu) refl
  where
    by_found : (o : Option (Serial × Row)) → unit_with rows row.onu ≡ o → unit_with rows row.onu ≡ Some (s, row)
    by_found None none = absurd (false≢true (sym (none_passes rows (λ q. q.onu == row.onu) none s row has) ∙ eq-eqb row.onu row.onu refl))
    by_found (Some (t, q)) is =
        let it = found rows (λ q. q.onu == row.onu) t q is in
        let same = one t q it.0 (eqb-true q.onu row.onu it.1) in
        is ∙ ap (λ (x : Serial). let o : Option (Serial × Row) = Some (x, q) in o) same.0 ∙ ap (λ (x : Row). let o : Option (Serial × Row) = Some (s, x) in o) (sym same.1)
