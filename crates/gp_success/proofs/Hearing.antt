-- What a lit unit does with what it hears and with grants while it is activated.
use Rattle.std.proofs.Common.{◌≡◌, ℕ, ◌+◌, ◌<◌, Bool, true, cond, None, Some, refl, ap, arith}
use Rattle.std.specs.Prelude.{nat_le}
use Rattle.std.proofs.lemmas.Bool.{eq-eqb, ne_eqb}
use Rattle.gp_ploam.specs.declared.message.Serial.{Serial}
use Rattle.gp_ploam.specs.declared.message.Down.TheVariants.{AssignOnu, RangingTime}
use Rattle.gp_ploam.specs.declared.message.Up.TheVariants.{SerialNumber as serial_number}
use Rattle.gp_ploam.specs.declared.check.Mask.{Mask}
use Rattle.gp_ploam.specs.Mask.{mask_value}
use Rattle.gp_ploam.specs.Up.{code_of_up}
use Rattle.gp_ploam.proofs.Serials.{same_serial-itself}
use Rattle.gp_ranging.specs.declared.grant.Grant.TheVariants.{Range}
use Rattle.gp_onu.specs.declared.stage.Stage.{Stage}
use Rattle.gp_onu.specs.declared.stage.Stage.TheVariants.{Standby, SerialNumber, Ranging, Operation}
use Rattle.gp_onu.specs.Table.{Frame}
use Rattle.gp_fibre.specs.World.{FibreUnit}
use Rattle.gp_fibre.specs.Step.{burst_answered, burst_with, unit_granted, unit_hearing, unit_taking}
use Rattle.gp_success.proofs.AllUnits.{unit_at}

module _ (s : Serial) (k : Mask) (d r : ℕ) where
  abbrev u : Stage → FibreUnit
  u stage = unit_at s k d r stage

  pub hears_number : (onu f : ℕ) → nat_le onu 253 ≡ true → unit_hearing (AssignOnu onu s) (u (SerialNumber f)) ≡ u (Ranging onu f)
  hears_number onu f low = rw (same_serial-itself s, low) refl

  pub hears_delay : (onu eqd f : ℕ) → unit_hearing (RangingTime onu eqd) (u (Ranging onu f)) ≡ u (Operation onu eqd None)
  hears_delay onu eqd f = rw (eq-eqb onu onu refl) refl

  pub hears_delay_again : (onu eqd : ℕ) → unit_hearing (RangingTime onu eqd) (u (Operation onu eqd None)) ≡ u (Operation onu eqd None)
  hears_delay_again onu eqd = rw (eq-eqb onu onu refl) refl

  pub ranged : (onu f : ℕ) → unit_granted (Range onu) (u (Ranging onu f)) ≡ u (Ranging onu f)
  ranged onu f = rw (eq-eqb onu onu refl) refl

  pub answers_range : (onu f : ℕ) → burst_answered (Range onu) (u (Ranging onu f)) ≡ Some (burst_with d (code_of_up (serial_number onu s 0 0) (mask_value k)))
  answers_range onu f = rw (eq-eqb onu onu refl) refl

  pub counts : (f : ℕ) → f + 1 < 80000 → unit_taking Frame (u (SerialNumber f)) ≡ u (SerialNumber (f + 1))
  counts f h = ap (λ (b : Bool). u (cond b Standby (SerialNumber (f + 1)))) (ne_eqb (f + 1) 80000 (λ e. omega arith))

  pub counts_ranging : (onu f : ℕ) → f + 1 < 80000 → unit_taking Frame (u (Ranging onu f)) ≡ u (Ranging onu (f + 1))
  counts_ranging onu f h = ap (λ (b : Bool). u (cond b Standby (Ranging onu (f + 1)))) (ne_eqb (f + 1) 80000 (λ e. omega arith))
