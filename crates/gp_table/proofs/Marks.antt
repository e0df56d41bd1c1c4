-- The sets of ranging and operating ONU-IDs, after a row is put in or taken out.
use Rattle.std.proofs.Common.{◌≡◌, ℕ, Bool, true, false, ◌⊎◌, inl, inr, refl, sym, ap, subst, ◌∙◌}
use Rattle.std.proofs.lemmas.Bool.{cases_Bool, cases_eq, false≢true}
use Rattle.std.specs.Prelude.{if◌then◌else◌}
use Rattle.std.specs.Ordering.{nat_cmp}
use Rattle.std.specs.FinMap as map
use Rattle.std.specs.FinSet as set
use Rattle.gp_ploam.specs.declared.message.Serial.{Serial}
use Rattle.gp_ploam.specs.Serials.{same_serial}
use Rattle.gp_ploam.proofs.Serials.{same_serial-true, same_serial-itself}
use Rattle.gp_table.proofs.Gets.{get-insert_same, get-insert_other, get-remove_same, get-remove_other, same_value, no_value}
use Rattle.gp_numbers.proofs.Members.{contains-insert_same, contains-insert_other, contains-remove_other, of_remove}
use Rattle.gp_unit.specs.declared.row.Row.{Row}
use Rattle.gp_unit.specs.Rows.{is_ranging}
use Rattle.gp_table.specs.Rows.{Rows, HasRow, IsInPhase}
use Rattle.gp_table.specs.Table.{IsSetOf}

-- nobody else has the ONU-ID, and the unit itself has no other
pub record IsAlone (rows : Rows) (s : Serial) (onu : ℕ) : Type 0 where
  pub others : (t : Serial) (row : Row) → HasRow rows t row → row.onu ≡ onu → t ≡ s
  pub itself : (row : Row) → HasRow rows s row → row.onu ≡ onu

-- ---- a row is put in

module _ (rows : Rows) (s : Serial) (new : Row) (alone : IsAlone rows s new.onu) where
  -- whoever was in the phase with another ONU-ID still is
  still : (ranging : Bool) (onu : ℕ) → (onu ≡ new.onu → ⊥) → IsInPhase rows ranging onu → IsInPhase (map.insert rows s new) ranging onu
  still ranging onu other p =
      elim (cases_Bool (same_serial p.serial s)) [
        | inl t ↦ absurd (other (sym p.is_onu ∙ alone.itself p.row (subst (λ (x : Serial). HasRow rows x p.row) (same_serial-true p.serial s t) p.has)))
        | inr f ↦ record { serial = p.serial; row = p.row; has = get-insert_other rows s new p.serial f ∙ p.has; phase = p.phase; is_onu = p.is_onu }
      ]

  -- whoever is in the phase now was, or is the new one
  was : (ranging : Bool) (onu : ℕ) → IsInPhase (map.insert rows s new) ranging onu
      → ((onu ≡ new.onu) × (is_ranging new.phase ≡ ranging)) ⊎ ((onu ≡ new.onu → ⊥) × IsInPhase rows ranging onu)
  was ranging onu p =
      elim (cases_Bool (same_serial p.serial s)) [
        | inl t ↦
            let is : new ≡ p.row = same_value new p.row (sym (get-insert_same rows s new) ∙ subst (λ (x : Serial). HasRow (map.insert rows s new) x p.row) (same_serial-true p.serial s t) p.has) in
            inl (sym (ap (λ (r : Row). r.onu) is ∙ p.is_onu), ap (λ (r : Row). is_ranging r.phase) is ∙ p.phase)
        | inr f ↦
            let had : HasRow rows p.serial p.row = sym (get-insert_other rows s new p.serial f) ∙ p.has in
            inr (
              λ e. false≢true (sym f ∙ subst (λ (x : Serial). same_serial x s ≡ true) (sym (alone.others p.serial p.row had (p.is_onu ∙ e))) (same_serial-itself s)),
              record { serial = p.serial; row = p.row; has = had; phase = p.phase; is_onu = p.is_onu },
            )
      ]

  anew : (ranging : Bool) → is_ranging new.phase ≡ ranging → IsInPhase (map.insert rows s new) ranging new.onu
  anew ranging phase = record { serial = s; row = new; has = get-insert_same rows s new; phase = phase; is_onu = refl }

  pub marks-insert : (onus : set.FinSet nat_cmp) (ranging : Bool) → is_ranging new.phase ≡ ranging → IsSetOf onus rows ranging → IsSetOf (set.insert onus new.onu) (map.insert rows s new) ranging
  marks-insert onus ranging phase h = record {
    in_set = λ onu p. elim (cases_eq onu new.onu) [
      | inl same ↦ rw same (contains-insert_same onus new.onu)
      | inr other ↦ contains-insert_other onus new.onu onu other ∙ elim (was ranging onu p) [ inl w ↦ absurd (other w.0) | inr w ↦ h.in_set onu w.1 ]
    ];
    of_set = λ onu has. elim (cases_eq onu new.onu) [
      | inl same ↦ rw same (anew ranging phase)
      | inr other ↦ still ranging onu other (h.of_set onu (sym (contains-insert_other onus new.onu onu other) ∙ has))
    ];
  }

  pub marks-leave : (onus : set.FinSet nat_cmp) (ranging : Bool) → (is_ranging new.phase ≡ ranging → ⊥) → IsSetOf onus rows ranging → IsSetOf (set.remove onus new.onu) (map.insert rows s new) ranging
  marks-leave onus ranging phase h = record {
    in_set = λ onu p. elim (was ranging onu p) [
      | inl w ↦ absurd (phase w.1)
      | inr w ↦ contains-remove_other onus new.onu onu w.0 ∙ h.in_set onu w.1
    ];
    of_set = λ onu has.
        let kept = of_remove onus new.onu onu has in
        still ranging onu kept.0 (h.of_set onu kept.1);
  }

  -- the set stays as it is where the row was in the same phase
  pub marks-stay : (old : Row) → HasRow rows s old → is_ranging old.phase ≡ is_ranging new.phase → (onus : set.FinSet nat_cmp) (ranging : Bool) → IsSetOf onus rows ranging → IsSetOf onus (map.insert rows s new) ranging
  marks-stay old has kind onus ranging h = record {
    in_set = λ onu p. elim (was ranging onu p) [
      | inl w ↦ h.in_set onu (record { serial = s; row = old; has = has; phase = kind ∙ w.1; is_onu = alone.itself old has ∙ sym w.0 })
      | inr w ↦ h.in_set onu w.1
    ];
    of_set = λ onu in_it.
        let p = h.of_set onu in_it in
        elim (cases_eq onu new.onu) [
          | inl same ↦
              let is_unit : p.serial ≡ s = alone.others p.serial p.row p.has (p.is_onu ∙ same) in
              let is : p.row ≡ old = same_value p.row old (sym p.has ∙ subst (λ (x : Serial). HasRow rows x old) (sym is_unit) has) in
              rw same (anew ranging (sym kind ∙ ap (λ (r : Row). is_ranging r.phase) (sym is) ∙ p.phase))
          | inr other ↦ still ranging onu other p
        ];
  }

  true_is_not_false : true ≡ false → ⊥
  true_is_not_false e = false≢true (sym e)

  -- both sets, as the phase says
  pub marks_ranging-put : (onus : set.FinSet nat_cmp) → IsSetOf onus rows true → IsSetOf (if is_ranging new.phase then set.insert onus new.onu else set.remove onus new.onu) (map.insert rows s new) true
  marks_ranging-put onus h =
      elim (cases_Bool (is_ranging new.phase)) [
        | inl t ↦ subst (λ b. IsSetOf (if b then set.insert onus new.onu else set.remove onus new.onu) (map.insert rows s new) true) (sym t) (marks-insert onus true t h)
        | inr f ↦ subst (λ b. IsSetOf (if b then set.insert onus new.onu else set.remove onus new.onu) (map.insert rows s new) true) (sym f) (marks-leave onus true (λ e. true_is_not_false (sym e ∙ f)) h)
      ]

  pub marks_operating-put : (onus : set.FinSet nat_cmp) → IsSetOf onus rows false → IsSetOf (if is_ranging new.phase then set.remove onus new.onu else set.insert onus new.onu) (map.insert rows s new) false
  marks_operating-put onus h =
      elim (cases_Bool (is_ranging new.phase)) [
        | inl t ↦ subst (λ b. IsSetOf (if b then set.remove onus new.onu else set.insert onus new.onu) (map.insert rows s new) false) (sym t) (marks-leave onus false (λ e. true_is_not_false (sym t ∙ e)) h)
        | inr f ↦ subst (λ b. IsSetOf (if b then set.remove onus new.onu else set.insert onus new.onu) (map.insert rows s new) false) (sym f) (marks-insert onus false f h)
      ]

-- ---- a row is taken out

pub marks-remove : (rows : Rows) (s : Serial) (row : Row) (onus : set.FinSet nat_cmp) (ranging : Bool) → HasRow rows s row → IsAlone rows s row.onu → IsSetOf onus rows ranging → IsSetOf (set.remove onus row.onu) (map.remove rows s) ranging
marks-remove rows s row onus ranging has alone h = record {
  in_set = λ onu p. elim (cases_Bool (same_serial p.serial s)) [
    | inl t ↦ absurd (no_value p.row (sym (get-remove_same rows s) ∙ subst (λ (x : Serial). HasRow (map.remove rows s) x p.row) (same_serial-true p.serial s t) p.has))
    | inr f ↦
        let had : HasRow rows p.serial p.row = sym (get-remove_other rows s p.serial f) ∙ p.has in
        let other : onu ≡ row.onu → ⊥ = λ e. false≢true (sym f ∙ subst (λ (x : Serial). same_serial x s ≡ true) (sym (alone.others p.serial p.row had (p.is_onu ∙ e))) (same_serial-itself s)) in
        contains-remove_other onus row.onu onu other ∙ h.in_set onu (record { serial = p.serial; row = p.row; has = had; phase = p.phase; is_onu = p.is_onu })
  ];
  of_set = λ onu in_it.
      let kept = of_remove onus row.onu onu in_it in
      let p = h.of_set onu kept.1 in
      elim (cases_Bool (same_serial p.serial s)) [
        | inl t ↦
            let is : p.row ≡ row = same_value p.row row (sym p.has ∙ subst (λ (x : Serial). HasRow rows x row) (sym (same_serial-true p.serial s t)) has) in
            absurd (kept.0 (sym p.is_onu ∙ ap (λ (r : Row). r.onu) is))
        | inr f ↦ record { serial = p.serial; row = p.row; has = get-remove_other rows s p.serial f ∙ p.has; phase = p.phase; is_onu = p.is_onu }
      ];
}
