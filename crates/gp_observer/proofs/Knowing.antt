-- What an observer knows stays what is true of the units, change by change.
use Rattle.std.proofs.Common.{◌≡◌, ℕ, ◌==◌, Bool, true, false, None, ◌⊎◌, inl, inr, refl, sym, ap, ◌∙◌, eq-eqb}
use Rattle.std.specs.Ordering.{nat_cmp}
use Rattle.std.specs.FinMap.{get, insert, remove, empty, get-empty}
use Rattle.std.specs.FinSet.{FinSet}
use Rattle.std.proofs.lemmas.Bool.{cases_Bool, cases_eq, false≢true, ne_eqb}
use Rattle.gp_ploam.specs.declared.message.Serial.{Serial}
use Rattle.gp_ploam.specs.Serials.{serial_cmp, same_serial}
use Rattle.gp_ploam.proofs.Serials.{same_serial-true, same_serial-itself}
use Rattle.gp_unit.specs.declared.row.Row.{Row}
use Rattle.gp_unit.specs.Rows.{holds_alloc, new_row, row_measured, row_with_alloc, row_releasing, row_popped_up}
use Rattle.gp_unit.proofs.Kept.{popped_onu}
use Rattle.gp_machine.specs.State.{Rows, HasRow, rows_mapped}
use Rattle.gp_machine.proofs.Units.{one_row, has_it, has_mapped}
use Rattle.gp_observer.specs.Observer.{Observed, some_passes, units_without, with_alloc}
use Rattle.gp_observer.specs.Knows.{delay_of, Lists, HoldsOnu, HoldsAlloc, HasDelay, IsKnown}
use Rattle.gp_observer.proofs.Listed.{not_none, one_value, dropped_at, Others, others_put, others_left, the_row, no_row, Here, kept, dropped, put, taken, mapped}
use Rattle.gp_observer.proofs.Rows.{IsAlike, new_holds_none, with_holds, with_others, releasing_holds, releasing_others, popped_holds, popped_delay}

-- no two units have one ONU-ID
abbrev pub AreApart : Rows → Type 0
AreApart rows = (s t : Serial) (row its : Row) → HasRow rows s row → HasRow rows t its → row.onu ≡ its.onu → s ≡ t

-- the ONU-IDs that pass the test are those of this unit
abbrev pub AreOf : Rows → (ℕ → Bool) → Serial → Type 0
AreOf rows gone s = (t : Serial) (row : Row) → HasRow rows t row → gone row.onu ≡ same_serial t s

pub same_either : (s t : Serial) → same_serial s t ≡ same_serial t s
same_either s t =
    elim (cases_Bool (same_serial s t)) [
      | inl b ↦ ap (λ (x : Serial). same_serial x t) (same_serial-true s t b) ∙ ap (λ (x : Serial). same_serial t x) (sym (same_serial-true s t b))
      | inr b ↦ elim (cases_Bool (same_serial t s)) [
        | inl c ↦ absurd (false≢true (sym b ∙ ap (λ (x : Serial). same_serial x t) (sym (same_serial-true t s c)) ∙ same_serial-itself t))
        | inr c ↦ b ∙ sym c
      ]
    ]

module _ (rows : Rows) (d : FinSet serial_cmp) (seen : Observed) (is : IsKnown rows d seen) where
  -- ---- what looks the same

  pub known_alike : (s : Serial) (old new : Row) → HasRow rows s old → IsAlike old new → IsKnown (insert rows s new) d seen
  known_alike s old new has alike =
      record {
        holder = kept HoldsOnu rows (insert rows s new) s others seen.holder is.holder
            (λ k x h. (new, it, (h.2.0, alike.onu ∙ was h.0 h.1 ∙ h.2.1))) (λ k x h. (old, has, (h.2.0, sym alike.onu ∙ ap (λ (r : Row). r.onu) (the_row rows s new h.0 h.1) ∙ h.2.1)));
        disabled_are = is.disabled_are;
        alloc = kept HoldsAlloc rows (insert rows s new) s others seen.alloc is.alloc
            (λ k x h. (new, it, (alike.onu ∙ was h.0 h.1 ∙ h.2.0, alike.allocs k ∙ ap (holds_alloc k) (one_row old h.0 (sym has ∙ h.1)) ∙ h.2.1)))
            (λ k x h. let same = the_row rows s new h.0 h.1 in (old, has, (sym alike.onu ∙ ap (λ (r : Row). r.onu) same ∙ h.2.0, sym (alike.allocs k) ∙ ap (holds_alloc k) same ∙ h.2.1)));
        delay = kept HasDelay rows (insert rows s new) s others seen.delay is.delay
            (λ k x h. (new, it, (alike.onu ∙ was h.0 h.1 ∙ h.2.0, alike.delay ∙ ap (λ (r : Row). delay_of r.phase) (one_row old h.0 (sym has ∙ h.1)) ∙ h.2.1)))
            (λ k x h. let same = the_row rows s new h.0 h.1 in (old, has, (sym alike.onu ∙ ap (λ (r : Row). r.onu) same ∙ h.2.0, sym alike.delay ∙ ap (λ (r : Row). delay_of r.phase) same ∙ h.2.1)));
      }
    where
      others : Others rows (insert rows s new) s
      others = others_put rows s new

      it : HasRow (insert rows s new) s new
      it = has_it rows s new

      was : (row : Row) → HasRow rows s row → old.onu ≡ row.onu
      was row h = ap (λ (r : Row). r.onu) (one_row old row (sym has ∙ h))

  -- ---- a unit is gone

  pub known_dropped : (new : Rows) (s : Serial) (gone : ℕ → Bool) → Others rows new s → ((row : Row) → HasRow new s row → ⊥) → AreOf rows gone s → IsKnown new d (units_without seen gone)
  known_dropped new s gone others none of =
      record {
        holder = dropped HoldsOnu rows new s others seen.holder is.holder _ gone (λ k. dropped_at seen.holder gone k) (λ k x t row has fact. ap gone (sym fact.1) ∙ of t row has) (λ k x h. none h.0 h.1);
        disabled_are = is.disabled_are;
        alloc = dropped HoldsAlloc rows new s others seen.alloc is.alloc _ (λ a. some_passes gone (get seen.alloc a))
            (λ k. dropped_at seen.alloc (λ a. some_passes gone (get seen.alloc a)) k)
            (λ k x t row has fact. ap (some_passes gone) ((is.alloc k x).1 (t, row, has, fact)) ∙ ap gone (sym fact.0) ∙ of t row has) (λ k x h. none h.0 h.1);
        delay = dropped HasDelay rows new s others seen.delay is.delay _ gone (λ k. dropped_at seen.delay gone k) (λ k x t row has fact. ap gone (sym fact.0) ∙ of t row has) (λ k x h. none h.0 h.1);
      }

  pub of_onu : AreApart rows → (s : Serial) (row : Row) → HasRow rows s row → AreOf rows (λ m. m == row.onu) s
  of_onu apart s row has t its there =
      elim (cases_eq its.onu row.onu) [
        | inl same ↦ eq-eqb its.onu row.onu same ∙ sym (ap (λ (x : Serial). same_serial x s) (apart t s its row there has same) ∙ same_serial-itself s)
        | inr other ↦ ne_eqb its.onu row.onu other ∙ sym (apart_serials other)
      ]
    where
      apart_serials : (its.onu ≡ row.onu → ⊥) → same_serial t s ≡ false
      apart_serials other =
          elim (cases_Bool (same_serial t s)) [
            | inl b ↦ absurd (other (ap (λ (r : Row). r.onu) (one_row its row (sym there ∙ ap (get rows) (same_serial-true t s b) ∙ has))))
            | inr b ↦ b
          ]

  pub of_serial : (s : Serial) → AreOf rows (λ n. some_passes (λ t. same_serial s t) (get seen.holder n)) s
  of_serial s t row has = ap (some_passes (λ x. same_serial s x)) ((is.holder row.onu t).1 (t, row, has, (refl, refl))) ∙ same_either s t

  pub known_removed : AreApart rows → (s : Serial) (row : Row) → HasRow rows s row → IsKnown (remove rows s) d (units_without seen (λ m. m == row.onu))
  known_removed apart s row has = known_dropped (remove rows s) s (λ m. m == row.onu) (others_left rows s) (λ q h. no_row rows s q h) (of_onu apart s row has)

  pub known_disabled : (s : Serial) → IsKnown (remove rows s) d (units_without seen (λ n. some_passes (λ t. same_serial s t) (get seen.holder n)))
  known_disabled s = known_dropped (remove rows s) s (λ n. some_passes (λ t. same_serial s t) (get seen.holder n)) (others_left rows s) (λ q h. no_row rows s q h) (of_serial s)

  pub known_absent : (s : Serial) → get rows s ≡ None → IsKnown rows d (units_without seen (λ n. some_passes (λ t. same_serial s t) (get seen.holder n)))
  known_absent s none =
      known_dropped rows s (λ n. some_passes (λ t. same_serial s t) (get seen.holder n)) (λ t q other. (λ h. h, λ h. h))
      (λ q h. not_none q (sym none ∙ h)) (of_serial s)

  -- ---- an equalization delay

  pub known_measured : AreApart rows → (s : Serial) (row : Row) (eqd : ℕ) → HasRow rows s row → IsKnown (insert rows s (row_measured row eqd)) d (record seen { delay = insert seen.delay row.onu eqd })
  known_measured apart s row eqd has =
      let same = known_but_delay in
      record { holder = same.0; disabled_are = is.disabled_are; alloc = same.1; delay = delays }
    where
      others : Others rows (insert rows s (row_measured row eqd)) s
      others = others_put rows s (row_measured row eqd)

      it : HasRow (insert rows s (row_measured row eqd)) s (row_measured row eqd)
      it = has_it rows s (row_measured row eqd)

      old : (q : Row) → HasRow rows s q → row ≡ q
      old q h = one_row row q (sym has ∙ h)

      known_but_delay : Lists HoldsOnu seen.holder (insert rows s (row_measured row eqd)) × Lists HoldsAlloc seen.alloc (insert rows s (row_measured row eqd))
      known_but_delay = (
        kept HoldsOnu rows (insert rows s (row_measured row eqd)) s others seen.holder is.holder (λ k x h. (row_measured row eqd, it, (h.2.0, ap (λ (r : Row). r.onu) (old h.0 h.1) ∙ h.2.1)))
            (λ k x h. (row, has, (h.2.0, ap (λ (r : Row). r.onu) (the_row rows s (row_measured row eqd) h.0 h.1) ∙ h.2.1))),
        kept HoldsAlloc rows (insert rows s (row_measured row eqd)) s others seen.alloc is.alloc
            (λ k x h. (row_measured row eqd, it, (ap (λ (r : Row). r.onu) (old h.0 h.1) ∙ h.2.0, ap (holds_alloc k) (old h.0 h.1) ∙ h.2.1)))
            (λ k x h. let same = the_row rows s (row_measured row eqd) h.0 h.1 in (row, has, (ap (λ (r : Row). r.onu) same ∙ h.2.0, ap (holds_alloc k) same ∙ h.2.1))),
      )

      delays : Lists HasDelay (insert seen.delay row.onu eqd) (insert rows s (row_measured row eqd))
      delays =
          put HasDelay rows (insert rows s (row_measured row eqd)) s others seen.delay is.delay row.onu eqd (row_measured row eqd, it, (refl, refl))
          (λ k x differs h. absurd (differs (sym h.2.0 ∙ sym (ap (λ (r : Row). r.onu) (old h.0 h.1)))))
          (λ k x h. let same = the_row rows s (row_measured row eqd) h.0 h.1 in inl (sym h.2.0 ∙ sym (ap (λ (r : Row). r.onu) same), one_value eqd x (ap (λ (r : Row). delay_of r.phase) same ∙ h.2.1)))
          (λ x t q other h fact. false≢true (sym other ∙ ap (λ (y : Serial). same_serial y s) (apart t s q row h has fact.0) ∙ same_serial-itself s))

  -- ---- a unit with a new ONU-ID

  -- the unit is told it, and has nothing else
  pub known_new : (s : Serial) (n : ℕ) → get rows s ≡ None → ((t : Serial) (row : Row) → HasRow rows t row → row.onu ≡ n → ⊥) → IsKnown (insert rows s (new_row n)) d (record seen { holder = insert seen.holder n s })
  known_new s n none unused =
      record {
        holder = put HoldsOnu rows (insert rows s (new_row n)) s others seen.holder is.holder n s (new_row n, it, (refl, refl)) (λ k x differs h. absurd (nobody h.0 h.1))
            (λ k x h. inl (sym h.2.1 ∙ sym (ap (λ (r : Row). r.onu) (the_row rows s (new_row n) h.0 h.1)), h.2.0)) (λ x t q other h fact. unused t q h fact.1);
        disabled_are = is.disabled_are;
        alloc = kept HoldsAlloc rows (insert rows s (new_row n)) s others seen.alloc is.alloc (λ k x h. absurd (nobody h.0 h.1))
            (λ k x h. absurd (false≢true (sym (new_holds_none n k) ∙ ap (holds_alloc k) (the_row rows s (new_row n) h.0 h.1) ∙ h.2.1)));
        delay = kept HasDelay rows (insert rows s (new_row n)) s others seen.delay is.delay (λ k x h. absurd (nobody h.0 h.1))
            (λ k x h. absurd (not_none x (ap (λ (r : Row). delay_of r.phase) (the_row rows s (new_row n) h.0 h.1) ∙ h.2.1)));
      }
    where
      others : Others rows (insert rows s (new_row n)) s
      others = others_put rows s (new_row n)

      it : HasRow (insert rows s (new_row n)) s (new_row n)
      it = has_it rows s (new_row n)

      nobody : (q : Row) → HasRow rows s q → ⊥
      nobody q h = not_none q (sym none ∙ h)

  -- ---- a further Alloc-ID

  -- the unit holds one more
  pub known_alloc : AreApart rows → (s : Serial) (row : Row) (a : ℕ) → HasRow rows s row → ((t : Serial) (q : Row) → HasRow rows t q → holds_alloc a q ≡ true → ⊥) → IsKnown (insert rows s (row_with_alloc row a)) d (with_alloc seen row.onu a true)
  known_alloc apart s row a has free =
      record {
        holder = kept HoldsOnu rows (insert rows s (row_with_alloc row a)) s others seen.holder is.holder (λ k x h. ((row_with_alloc row a), it, (h.2.0, ap (λ (r : Row). r.onu) (old h.0 h.1) ∙ h.2.1)))
            (λ k x h. (row, has, (h.2.0, ap (λ (r : Row). r.onu) (the_row rows s (row_with_alloc row a) h.0 h.1) ∙ h.2.1)));
        disabled_are = is.disabled_are;
        alloc = put HoldsAlloc rows (insert rows s (row_with_alloc row a)) s others seen.alloc is.alloc a row.onu ((row_with_alloc row a), it, (refl, with_holds row a))
            (λ k x differs h. ((row_with_alloc row a), it, (ap (λ (r : Row). r.onu) (old h.0 h.1) ∙ h.2.0, with_others row a k differs ∙ ap (holds_alloc k) (old h.0 h.1) ∙ h.2.1)))
            (λ k x h. by_key k x h) (λ x t q other h fact. free t q h fact.1);
        delay = kept HasDelay rows (insert rows s (row_with_alloc row a)) s others seen.delay is.delay
            (λ k x h. ((row_with_alloc row a), it, (ap (λ (r : Row). r.onu) (old h.0 h.1) ∙ h.2.0, ap (λ (r : Row). delay_of r.phase) (old h.0 h.1) ∙ h.2.1)))
            (λ k x h. let same = the_row rows s (row_with_alloc row a) h.0 h.1 in (row, has, (ap (λ (r : Row). r.onu) same ∙ h.2.0, ap (λ (r : Row). delay_of r.phase) same ∙ h.2.1)));
      }
    where
      others : Others rows (insert rows s (row_with_alloc row a)) s
      others = others_put rows s (row_with_alloc row a)

      it : HasRow (insert rows s (row_with_alloc row a)) s (row_with_alloc row a)
      it = has_it rows s (row_with_alloc row a)

      old : (q : Row) → HasRow rows s q → row ≡ q
      old q h = one_row row q (sym has ∙ h)

      by_key : (k x : ℕ) → Here HoldsAlloc (insert rows s (row_with_alloc row a)) s k x → ((k ≡ a) × (row.onu ≡ x)) ⊎ ((k ≡ a → ⊥) × Here HoldsAlloc rows s k x)
      by_key k x h =
          let same : (row_with_alloc row a) ≡ h.0 = the_row rows s (row_with_alloc row a) h.0 h.1 in
          let onu : row.onu ≡ x = ap (λ (r : Row). r.onu) same ∙ h.2.0 in
          elim (cases_eq k a) [
            | inl is_it ↦ inl (is_it, onu)
            | inr other ↦ inr (other, (row, has, (onu, sym (with_others row a k other) ∙ ap (holds_alloc k) same ∙ h.2.1)))
          ]

  -- the unit is to give one back that no other has
  pub known_back : (s : Serial) (row : Row) (a : ℕ) → HasRow rows s row → ((t : Serial) (q : Row) → same_serial t s ≡ false → HasRow rows t q → holds_alloc a q ≡ true → ⊥) → IsKnown (insert rows s (row_releasing row a)) d (with_alloc seen row.onu a false)
  known_back s row a has only =
      record {
        holder = kept HoldsOnu rows (insert rows s (row_releasing row a)) s others seen.holder is.holder (λ k x h. ((row_releasing row a), it, (h.2.0, ap (λ (r : Row). r.onu) (old h.0 h.1) ∙ h.2.1)))
            (λ k x h. (row, has, (h.2.0, ap (λ (r : Row). r.onu) (the_row rows s (row_releasing row a) h.0 h.1) ∙ h.2.1)));
        disabled_are = is.disabled_are;
        alloc = taken HoldsAlloc rows (insert rows s (row_releasing row a)) s others seen.alloc is.alloc a
            (λ x h. false≢true (sym (releasing_holds row a) ∙ ap (holds_alloc a) (the_row rows s (row_releasing row a) h.0 h.1) ∙ h.2.1))
            (λ k x differs h. ((row_releasing row a), it, (ap (λ (r : Row). r.onu) (old h.0 h.1) ∙ h.2.0, releasing_others row a k differs ∙ ap (holds_alloc k) (old h.0 h.1) ∙ h.2.1)))
            (λ k x differs h. let same = the_row rows s (row_releasing row a) h.0 h.1 in (row, has, (ap (λ (r : Row). r.onu) same ∙ h.2.0, sym (releasing_others row a k differs) ∙ ap (holds_alloc k) same ∙ h.2.1)))
            (λ x t q other h fact. only t q other h fact.1);
        delay = kept HasDelay rows (insert rows s (row_releasing row a)) s others seen.delay is.delay
            (λ k x h. ((row_releasing row a), it, (ap (λ (r : Row). r.onu) (old h.0 h.1) ∙ h.2.0, ap (λ (r : Row). delay_of r.phase) (old h.0 h.1) ∙ h.2.1)))
            (λ k x h. let same = the_row rows s (row_releasing row a) h.0 h.1 in (row, has, (ap (λ (r : Row). r.onu) same ∙ h.2.0, ap (λ (r : Row). delay_of r.phase) same ∙ h.2.1)));
      }
    where
      others : Others rows (insert rows s (row_releasing row a)) s
      others = others_put rows s (row_releasing row a)

      it : HasRow (insert rows s (row_releasing row a)) s (row_releasing row a)
      it = has_it rows s (row_releasing row a)

      old : (q : Row) → HasRow rows s q → row ≡ q
      old q h = one_row row q (sym has ∙ h)

  -- ---- POPUP of all

  pub known_popped : IsKnown (rows_mapped (λ row. row_popped_up row row.phase) rows) d (record seen { delay = empty })
  known_popped =
      record {
        holder = mapped HoldsOnu (λ row. row_popped_up row row.phase) rows seen.holder
            (λ k x s row. (λ h. (h.0, popped_onu row row.phase ∙ h.1), λ h. (h.0, sym (popped_onu row row.phase) ∙ h.1))) is.holder;
        disabled_are = is.disabled_are;
        alloc = mapped HoldsAlloc (λ row. row_popped_up row row.phase) rows seen.alloc
            (λ k x s row. (λ h. (popped_onu row row.phase ∙ h.0, popped_holds row k ∙ h.1), λ h. (sym (popped_onu row row.phase) ∙ h.0, sym (popped_holds row k) ∙ h.1))) is.alloc;
        delay = λ k x. (
          λ e. absurd (not_none x (sym (get-empty nat_cmp k) ∙ e)),
          λ u. let was = has_mapped (λ row. row_popped_up row row.phase) rows u.0 u.1 u.2 in
              absurd (not_none x (sym (popped_delay was.0) ∙ ap (λ (r : Row). delay_of r.phase) was.2 ∙ u.3.1)),
        );
      }
