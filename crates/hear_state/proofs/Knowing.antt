-- What is kept after each change, and what is known by it.
use Rattle.std.proofs.Common.{◌≡◌, ℕ, ◌==◌, ◌<◌, Bool, true, false, cond, length, map, get_or, Option, inl, inr, refl, sym, ap, ◌∙◌, arith}
use Rattle.std.specs.Prelude.{if◌then◌else◌}
use Rattle.std.proofs.Math.ListN.{set, length-set}
use Rattle.std.proofs.lemmas.Bool.{cases_eq, ne_eqb}
use Rattle.std.proofs.lemmas.List.{length-map, get_or_default}
use Rattle.gp_ploam.specs.declared.message.Serial.{Serial}
use Rattle.gp_ploam.specs.declared.message.Up.{Up}
use Rattle.gp_ploam.specs.declared.message.Up.TheVariants.{SerialNumber}
use Rattle.gp_ploam.specs.OnuIds.{broadcast_onu}
use Rattle.gp_ploam.specs.Up.{octet1_of}
use Rattle.hear_rules.specs.Facts as facts
use Rattle.hear_rules.specs.Known as spec
use Rattle.hear_rules.specs.Known.{Known, Owner, Unclear, owner_after, owner_told}
use Rattle.hear_state.specs.declared.facts.Sure.TheVariants as sure
use Rattle.hear_state.specs.declared.rows.Row.{Row}
use Rattle.hear_state.specs.declared.index.Followed.{Followed}
use Rattle.hear_state.specs.Rows.{number_of, popped_up_row}
use Rattle.hear_state.specs.Index.{enabled}
use Rattle.hear_state.specs.Kept.{Kept, known_of, row_at, followed_at, owner_beyond, holder_of, IsHeard, SameKnown, IsKept}
use Rattle.hear_state.specs.Owners.{lost_only}
use Rattle.hear_state.specs.Changes.{lost_at, other_than, kept_assigned, kept_with_row, kept_following, kept_dropped, kept_all_dropped, kept_disabled, kept_all_enabled, kept_popped_up, kept_spoken, IsAssigned, disabled_serial, asking_serial, after_serial, serial_told}
use Rattle.hear_state.proofs.Indexed.{assigned_holder}
use Rattle.hear_state.proofs.Reading.{get-set}
use Rattle.hear_state.proofs.Keeping.{units_assigned, kept-assigned, units_enabled, kept-following, units_disabled, kept-disabled, units_dropped, kept-dropped, units_all_dropped, kept-all_dropped, units_all_enabled, kept-all_enabled, units_with_row, kept-with_row, units_popped_up, kept-popped_up, ranged_holder, popped_up_holder, popped_up_is, spoken_holder, units_asking, answering, units_answering, kept-answering, kept-spoken, units_spoken}
use Rattle.hear_state.proofs.Owning.{heard_holder, heard_left, heard_dropped, heard_ranged, heard_popped_up, heard_spoken, heard_at, owned_lost, owned_kept, owned_alloc, with_owners, whole, read_lost, owners_disabled, owners_assigned}

-- what is kept is sound, and what is known by it is this
abbrev pub Whole : Kept → Known → Type 0
Whole kept known = IsKept kept × SameKnown (known_of kept) known

module _ (kept : Kept) (is : IsKept kept) where
  abbrev known : Known
  known = known_of kept

  -- ---- where no owner changes

  pub whole_enabled : (serial : Serial) → Whole (kept_following kept serial (enabled (followed_at kept serial))) (spec.after_enable known serial)
  whole_enabled serial =
      whole (kept_following kept serial (enabled (followed_at kept serial))) kept.owners (spec.after_enable known serial)
      (kept-following kept is.units serial (enabled (followed_at kept serial)) refl) (units_enabled kept is.units serial) is.allocs (λ q. refl)
      (owned_kept known (spec.after_enable known serial) is.owned (λ n h. h) (λ q. refl))

  pub whole_all_enabled : Whole (kept_all_enabled kept) (record known { disabled = λ serial. facts.No })
  whole_all_enabled =
      whole (kept_all_enabled kept) kept.owners (record known { disabled = λ serial. facts.No })
      (kept-all_enabled kept is.units) (units_all_enabled kept is.units) is.allocs (λ q. refl)
      (owned_kept known (record known { disabled = λ serial. facts.No }) is.owned (λ n h. h) (λ q. refl))

  pub whole_ranged : (onu eqd : ℕ) (r : Row) → onu < 256 → number_of r ≡ spec.ranged (known.numbers onu) eqd → Whole (kept_with_row kept onu r) (spec.after_range known onu eqd)
  whole_ranged onu eqd r low to =
      whole (kept_with_row kept onu r) kept.owners (spec.after_range known onu eqd)
      (kept-with_row kept is.units onu r low (ap holder_of to ∙ ranged_holder (known.numbers onu) eqd)) (units_with_row kept is.units onu r (λ n. spec.ranged n eqd) low to) is.allocs (λ q. refl)
      (owned_kept known (spec.after_range known onu eqd) is.owned (λ n. heard_at (λ k. spec.ranged k eqd) onu (heard_ranged eqd) n (known.numbers n)) (λ q. refl))

  pub whole_popped_up : Whole (kept_popped_up kept) (spec.after_pop_up_all known)
  whole_popped_up =
      whole (kept_popped_up kept) kept.owners (spec.after_pop_up_all known)
      (kept-popped_up kept is.units) (units_popped_up kept is.units) is.allocs (λ q. refl)
      (owned_kept known (spec.after_pop_up_all known) is.owned (λ n. heard_popped_up (known.numbers n)) (λ q. refl))

  pub whole_adjusted : (onu : ℕ) → onu < 256 → Whole (kept_with_row kept onu (popped_up_row (row_at kept onu))) (spec.after_adjust known onu)
  whole_adjusted onu low =
      let r = popped_up_row (row_at kept onu) in
      whole (kept_with_row kept onu r) kept.owners (spec.after_adjust known onu)
      (kept-with_row kept is.units onu r low (popped_up_holder (row_at kept onu))) (units_with_row kept is.units onu r spec.popped_up low (popped_up_is kept is.units (row_at kept onu))) is.allocs (λ q. refl)
      (owned_kept known (spec.after_adjust known onu) is.owned (λ n. heard_at spec.popped_up onu heard_popped_up n (known.numbers n)) (λ q. refl))

  pub whole_overhead : Whole (record kept { overhead = sure.Yes }) (record known { overhead = facts.Yes })
  whole_overhead = (
    record {
      units = record { long = is.units.long; unheld = is.units.unheld; unasked = is.units.unasked; indexed = record { held = is.units.indexed.held; holder = is.units.indexed.holder } };
      allocs = is.allocs;
      owned = is.owned;
    },
    record {
      units = record { numbers = λ q. refl; holds = λ q. refl; disabled = λ q. refl; asks = λ q. refl; asked = λ q. refl; overhead = refl; up = refl };
      owners = λ q. refl;
    },
  )

  pub whole_asking : (serial : Serial) → Whole (kept_following kept serial (asking_serial (followed_at kept serial))) (after_serial known broadcast_onu serial)
  whole_asking serial =
      whole (kept_following kept serial (asking_serial (followed_at kept serial))) kept.owners (after_serial known broadcast_onu serial)
      (kept-following kept is.units serial (asking_serial (followed_at kept serial)) refl) (units_asking kept is.units serial) is.allocs (λ q. refl)
      (owned_kept known (after_serial known broadcast_onu serial) is.owned (λ n h. h) (λ q. refl))

  pub whole_answering : (serial : Serial) (onu : ℕ) → (onu == broadcast_onu) ≡ false → Whole (answering kept is.units serial) (after_serial known onu serial)
  whole_answering serial onu other =
      whole (answering kept is.units serial) kept.owners (after_serial known onu serial)
      (kept-answering kept is.units serial) (units_answering kept is.units serial onu other) is.allocs (λ q. refl)
      (owned_kept known (after_serial known onu serial) is.owned (λ n h. h) (λ q. refl))

  -- ---- where ONU-IDs lose their Alloc-IDs

  pub whole_dropped : (onu : ℕ) → onu < 256 → Whole (with_owners (kept_dropped kept onu) (map (owner_after (lost_only onu facts.Yes)) kept.owners)) (spec.after_drop known onu)
  whole_dropped onu low =
      whole (kept_dropped kept onu) (map (owner_after (lost_only onu facts.Yes)) kept.owners) (spec.after_drop known onu)
      (kept-dropped kept is.units onu low) (units_dropped kept is.units onu low) (length-map kept.owners (owner_after (lost_only onu facts.Yes)) ∙ is.allocs)
      (λ q. read_lost (lost_only onu facts.Yes) kept.owners kept.others.asks q)
      (owned_lost known (spec.after_drop known onu) is.owned (λ n. heard_at spec.dropped onu heard_dropped n (known.numbers n)) (lost_only onu facts.Yes) (λ q. refl))

  pub whole_all_dropped : Whole (with_owners (kept_all_dropped kept) (map (owner_after (λ onu. facts.Yes)) kept.owners)) (spec.after_drop_all known)
  whole_all_dropped =
      whole (kept_all_dropped kept) (map (owner_after (λ onu. facts.Yes)) kept.owners) (spec.after_drop_all known)
      (kept-all_dropped kept is.units) (units_all_dropped kept is.units) (length-map kept.owners (owner_after (λ onu. facts.Yes)) ∙ is.allocs)
      (λ q. read_lost (λ onu. facts.Yes) kept.owners kept.others.asks q)
      (owned_lost known (spec.after_drop_all known) is.owned (λ n. heard_dropped (known.numbers n)) (λ onu. facts.Yes) (λ q. refl))

  pub whole_disabled : (serial : Serial) → Whole (with_owners (kept_disabled kept serial (disabled_serial (followed_at kept serial))) (map (owner_after (lost_at (followed_at kept serial).holds)) kept.owners)) (spec.after_disable known serial)
  whole_disabled serial =
      let lost = lost_at (followed_at kept serial).holds in
      whole (kept_disabled kept serial (disabled_serial (followed_at kept serial))) (map (owner_after lost) kept.owners) (spec.after_disable known serial)
      (kept-disabled kept is.units serial) (units_disabled kept is.units serial) (length-map kept.owners (owner_after lost) ∙ is.allocs)
      (λ q. read_lost lost kept.owners kept.others.asks q ∙ owners_disabled known is.units.indexed is.owned serial (followed_at kept serial).holds refl q)
      (owned_lost known (spec.after_disable known serial) is.owned (λ n. heard_left (known.numbers n) serial) (λ n. spec.lost_by (known.numbers n) serial) (λ q. refl))

  module _ (onu : ℕ) (low : onu < 256) (serial : Serial) (r : Row) (f : Followed) (lost : facts.Sure)
      (assigned : number_of r ≡ spec.assigned (known.asked serial) (known.numbers onu) serial)
      (to : IsAssigned onu (followed_at kept serial) f) (loses : lost ≡ spec.lost_of (known.numbers onu) serial) where
    abbrev left : ℕ → facts.Sure
    left = lost_at (other_than (followed_at kept serial).holds onu)

    heard : (n : ℕ) → IsHeard (known.numbers n) → IsHeard ((spec.after_assign known onu serial).numbers n)
    heard n h = by_test (n == onu)
      where
        by_test : (b : Bool) → IsHeard (if b then spec.assigned (known.asked serial) (known.numbers n) serial else spec.left_by (known.numbers n) serial)
        by_test true = heard_holder (spec.assigned (known.asked serial) (known.numbers n) serial) serial (assigned_holder (known.asked serial) (known.numbers n) serial)
        by_test false = heard_left (known.numbers n) serial h

    pub whole_assigned : Whole (with_owners (kept_assigned kept onu serial r f) (map (owner_after (lost_only onu lost)) (map (owner_after left) kept.owners))) (spec.after_assign known onu serial)
    whole_assigned =
        whole (kept_assigned kept onu serial r f) (map (owner_after (lost_only onu lost)) (map (owner_after left) kept.owners)) (spec.after_assign known onu serial)
        (kept-assigned kept is.units onu low serial r f assigned to) (units_assigned kept is.units onu low serial r f assigned to)
        (length-map (map (owner_after left) kept.owners) (owner_after (lost_only onu lost)) ∙ length-map kept.owners (owner_after left) ∙ is.allocs)
        (λ q. read_lost (lost_only onu lost) (map (owner_after left) kept.owners) kept.others.asks q
        ∙ ap (owner_after (lost_only onu lost)) (read_lost left kept.owners kept.others.asks q)
        ∙ owners_assigned known is.units.indexed is.owned onu serial (followed_at kept serial).holds lost refl loses q)
        (owned_lost known (spec.after_assign known onu serial) is.owned heard (spec.lost_with known onu serial) (λ q. refl))

  -- ---- Assign_Alloc-ID

  pub whole_told : (onu alloc : ℕ) (keep : Bool) → alloc < 4096
      → Whole (with_owners kept (set kept.owners alloc (owner_told (known.numbers onu) (get_or kept.owners alloc Unclear) onu keep))) (spec.after_alloc known onu alloc keep)
  whole_told onu alloc keep low =
      whole kept (set kept.owners alloc (owner_told (known.numbers onu) (get_or kept.owners alloc Unclear) onu keep)) (spec.after_alloc known onu alloc keep)
      is.units
      (record { numbers = λ q. refl; holds = λ q. refl; disabled = λ q. refl; asks = λ q. refl; asked = λ q. refl; overhead = refl; up = refl })
      (length-set kept.owners alloc (owner_told (known.numbers onu) (get_or kept.owners alloc Unclear) onu keep) ∙ is.allocs)
      (λ q. get-set kept.owners alloc (owner_told (known.numbers onu) (get_or kept.owners alloc Unclear) onu keep) (owner_beyond kept.others.asks) q within ∙ own q)
      (owned_alloc known is.owned onu alloc keep)
    where
      within : alloc < length kept.owners
      within = omega (arith, is.allocs, low)

      same : get_or kept.owners alloc Unclear ≡ known.owners alloc
      same = get_or_default kept.owners alloc Unclear (owner_beyond kept.others.asks) within

      own : (q : ℕ) → cond (q == alloc) (owner_told (known.numbers onu) (get_or kept.owners alloc Unclear) onu keep) (known.owners q)
          ≡ (if q == alloc then owner_told (known.numbers onu) (known.owners q) onu keep else known.owners q)
      own q = elim (cases_eq q alloc) [
        | inl here ↦
            ap (λ (o : Owner). cond (q == alloc) (owner_told (known.numbers onu) o onu keep) (known.owners q)) (same ∙ ap known.owners (sym here))
        | inr other ↦
            ap (λ b. cond b (owner_told (known.numbers onu) (get_or kept.owners alloc Unclear) onu keep) (known.owners q)) (ne_eqb q alloc other)
            ∙ sym (ap (λ b. cond b (owner_told (known.numbers onu) (known.owners q) onu keep) (known.owners q)) (ne_eqb q alloc other))
      ]

-- ---- what a unit says with its ONU-ID

module _ (kept : Kept) (is : IsKept kept) (onu : ℕ) (low : onu < 256) (r : Row) (message : Up) (delay : Option ℕ) (known : Known)
    (to : number_of r ≡ spec.spoken (number_of (row_at kept onu)) message delay) where
  abbrev mid : Known
  mid = known_of kept

  pub kept_said : IsKept (kept_spoken kept onu r)
  kept_said =
      let row = whole (kept_with_row kept onu r) kept.owners (record mid { numbers = λ q. if q == onu then spec.spoken (mid.numbers q) message delay else mid.numbers q })
      (kept-with_row kept is.units onu r low (ap holder_of to ∙ spoken_holder (number_of (row_at kept onu)) message delay))
      (units_with_row kept is.units onu r (λ n. spec.spoken n message delay) low to) is.allocs (λ q. refl)
      (owned_kept mid (record mid { numbers = λ q. if q == onu then spec.spoken (mid.numbers q) message delay else mid.numbers q }) is.owned
      (λ n. heard_at (λ k. spec.spoken k message delay) onu (heard_spoken message delay) n (mid.numbers n)) (λ q. refl)) in
      record { units = kept-spoken kept is.units onu low r message delay known to; allocs = is.allocs; owned = row.0.owned }

  pub same_said : onu ≡ octet1_of message → SameKnown (known_of kept) (serial_told known message) → SameKnown (known_of (kept_spoken kept onu r)) (spec.after_answer known message delay)
  same_said octet1 told = record {
    units = units_spoken kept is.units onu low r message delay known to octet1 told.units;
    owners = λ q. told.owners q ∙ owners message q;
  }
    where
      owners : (m : Up) (q : ℕ) → (serial_told known m).owners q ≡ known.owners q
      owners (SerialNumber n serial random flags) q = refl
      owners _ q = refl
