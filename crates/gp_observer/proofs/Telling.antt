-- The messages that a response to a burst or a command owes tell what it changes, and break no rule.
use Rattle.std.proofs.Common.{◌≡◌, ℕ, ◌<◌, ◌≤◌, ◌==◌, Bool, true, false, cond, List, [], Option, None, Some, ◌⊎◌, ◌||◌, ◌&&◌, inl, inr, refl, sym, ap, subst, ◌∙◌, arith}
use Rattle.std.specs.Ordering.{eq_by_cmp}
use Rattle.std.specs.FinMap.{get, insert, remove, get-insert, get-remove, same_map}
use Rattle.std.specs.FinSet.{contains}
use Rattle.std.specs.FinSet as finset
use Rattle.std.proofs.lemmas.Bool.{false≢true, ne_eqb, eqb-true, le-leb}
use Rattle.gp_ploam.specs.declared.message.Serial.{Serial}
use Rattle.gp_ploam.specs.declared.message.Down.TheVariants.{AssignOnu, Deactivate, DisableSerial}
use Rattle.gp_ploam.specs.declared.message.Up.{Up}
use Rattle.gp_ploam.specs.declared.message.Up.TheVariants.{SerialNumber, DyingGasp, Acknowledge}
use Rattle.gp_ploam.specs.Serials.{serial_cmp, same_serial}
use Rattle.gp_ploam.specs.Up.{octet1_of}
use Rattle.gp_ploam.proofs.Serials.{serials_total, serials_exact, same_serial-itself}
use Rattle.gp_ranging.specs.declared.grant.Grant.{Grant}
use Rattle.gp_ranging.specs.declared.grant.Grant.TheVariants.{Search, Range, Poll}
use Rattle.gp_ranging.specs.Window.{WindowState}
use Rattle.gp_ranging.specs.Delay.{equalization_delay}
use Rattle.gp_alarms.specs.declared.alarm.AlarmKind.{AlarmKind}
use Rattle.gp_alarms.specs.declared.alarm.AlarmKind.TheVariants.{Df}
use Rattle.gp_alarms.specs.declared.poll.Outcome.{Outcome}
use Rattle.gp_alarms.specs.declared.poll.Outcome.TheVariants as poll
use Rattle.gp_unit.specs.declared.row.Phase.{Phase}
use Rattle.gp_unit.specs.declared.row.Phase.TheVariants.{Ranging, Operating}
use Rattle.gp_unit.specs.declared.row.Row.{Row}
use Rattle.gp_unit.specs.Rows.{is_ranging, is_operating, holds_alloc, new_row, row_polled, alarm_polled}
use Rattle.gp_unit.proofs.Kept.{has_held}
use Rattle.gp_machine.specs.declared.event.Command.{Command}
use Rattle.gp_machine.specs.declared.event.Command.TheVariants as command
use Rattle.gp_machine.specs.declared.refusal.Refusal.{Refusal}
use Rattle.gp_machine.specs.declared.refusal.Refusal.TheVariants.{Stray, Garbled, WrongWindow}
use Rattle.gp_machine.specs.declared.reply.Reply.TheVariants.{DisabledSeen}
use Rattle.gp_machine.specs.State.{PortState, Rows, HasRow, Ranges, unit_with}
use Rattle.gp_machine.specs.Sound.{IsSound, IsAsked, IsAskedBy}
use Rattle.gp_machine.specs.Changes.{Change, state_after, owed_by}
use Rattle.gp_machine.specs.Responses.{Response, GivesOnu, GivesAlloc, MayPick, changes_with, alarms, busy_causes}
use Rattle.gp_machine.specs.SearchWindow.{refuses_burst, if_room, newcomer_causes, search_causes, owes_assign, newcomer_response, again_response, active_response, enabled_response, admitted_response, search_response}
use Rattle.gp_machine.specs.RangeWindow.{stranger_causes, measured_response, ranging_response}
use Rattle.gp_machine.specs.PollWindow.{alive_response, acknowledged_response, operating_response}
use Rattle.gp_machine.specs.Burst.{directed_response, message_response, heard_response, windowed_response, burst_response}
use Rattle.gp_machine.specs.Commands.{refuses, searching_causes, alloc_causes, dealloc_causes, popup_causes, alloc_response, dealloc_response, deactivate_response, disable_response, enable_response, popup_response, command_response}
use Rattle.gp_machine.proofs.Units.{found, one_row, not_none, has_left}
use Rattle.gp_machine.proofs.Walks.{by_test, not_false, by_causes, by_unit, by_active}
use Rattle.gp_laws.proofs.Orderly.{gone}
use Rattle.gp_observer.specs.Observer.{Observed, is_of, drops, units_without, with_holder, observed_after, observed_after_all, popped_up}
use Rattle.gp_observer.specs.Knows.{IsKnown, delay_of}
use Rattle.gp_observer.proofs.Keeping.{IsHeld, IsUnranged, IsRanged, MayAssign, KeepsRules, AllKeepRules}
use Rattle.gp_observer.proofs.Listed.{not_none as no_delay, others_left, no_row}
use Rattle.gp_observer.proofs.Rows.{polled_alike, acknowledged_alike, alike_both}
use Rattle.gp_observer.proofs.Knowing.{AreApart, AreOf, known_alike, known_dropped, of_onu, of_serial, known_disabled, known_absent, known_measured, known_new, known_alloc, known_back, known_popped}

-- after the changes the observer that heard what they owe knows the units, and none of it breaks a rule
abbrev pub Follow : PortState → Observed → List Change → Type 0
Follow p seen changes = IsKnown (state_after p changes).rows (state_after p changes).disabled (observed_after_all seen (owed_by changes)) × AllKeepRules seen (owed_by changes)

abbrev pub IsTold : PortState → Observed → Response → Type 0
IsTold p seen d = (n : ℕ) → MayPick p d n → Follow p seen (changes_with d n)

-- a row in the place of one that was taken out
put_again : (rows : Rows) (s : Serial) (row : Row) → insert (remove rows s) s row ≡ insert rows s row
put_again rows s row = same_map serials_total serials_exact _ _ (λ t. get-insert serials_total (remove rows s) s row t ∙ ap (cond (eq_by_cmp serial_cmp t s) (Some row)) (get-remove serials_total rows s t) ∙ by_key (eq_by_cmp serial_cmp t s) (get rows t) ∙ sym (get-insert serials_total rows s row t))
  where
    by_key : (b : Bool) (o : Option Row) → cond b (Some row) (cond b None o) ≡ cond b (Some row) o
    by_key true o = refl
    by_key false o = refl

module _ (p : PortState) (sound : IsSound p) (seen : Observed) (is : IsKnown p.rows p.disabled seen) where
  apart : AreApart p.rows
  apart s t row its h k same = sound.units.apart s t row its h k (inl same)

  -- ---- rules

  pub held : (s : Serial) (row : Row) → HasRow p.rows s row → IsHeld seen row.onu
  held s row has = (s, (is.holder row.onu s).1 (s, row, has, (refl, refl)))

  -- a unit that ranges was told no delay
  unranged : (s : Serial) (row : Row) → HasRow p.rows s row → is_ranging row.phase ≡ true → IsUnranged seen row.onu
  unranged s row has ranges = (held s row has, by_delay (get seen.delay row.onu) refl)
    where
      none : (phase : Phase) → is_ranging phase ≡ true → delay_of phase ≡ None
      none (Ranging attempts heard) e = refl
      none (Operating eqd dark garbled) e = absurd (false≢true e)

      by_delay : (o : Option ℕ) → get seen.delay row.onu ≡ o → get seen.delay row.onu ≡ None
      by_delay None e = e
      by_delay (Some x) e =
          let u = (is.delay row.onu x).0 e in
          let same : u.1 ≡ row = one_row u.1 row (sym u.2 ∙ ap (get p.rows) (apart u.0 s u.1 row u.2 has u.3.0) ∙ has) in
          absurd (no_delay x (sym (none row.phase ranges) ∙ ap (λ (r : Row). delay_of r.phase) (sym same) ∙ u.3.1))

  -- one that operates was told one
  pub ranged : (s : Serial) (row : Row) → HasRow p.rows s row → is_operating row.phase ≡ true → IsRanged seen row.onu
  ranged s row has operates = (held s row has, by_phase row.phase refl operates)
    where
      by_phase : (phase : Phase) → row.phase ≡ phase → is_operating phase ≡ true → (eqd : ℕ) × (get seen.delay row.onu ≡ Some eqd)
      by_phase (Ranging attempts heard) at e = absurd (false≢true e)
      by_phase (Operating eqd dark garbled) at e = (eqd, (is.delay row.onu eqd).1 (s, row, has, (refl, ap delay_of at)))

  not_disabled : (s : Serial) → contains p.disabled s ≡ false → contains seen.disabled s ≡ false
  not_disabled s h = ap (λ d. contains d s) is.disabled_are ∙ h

  may_assign_new : (s : Serial) (n : ℕ) → n ≤ 253 → contains p.disabled s ≡ false → get p.rows s ≡ None → ((t : Serial) (row : Row) → HasRow p.rows t row → row.onu ≡ n → ⊥) → MayAssign seen n s
  may_assign_new s n low enabled none unused =
      record {
        low = low;
        enabled = not_disabled s enabled;
        unheld = λ t e. let u = (is.holder n t).0 e in absurd (unused u.0 u.1 u.2 u.3.1);
        one = λ m e. let u = (is.holder m s).0 e in absurd (not_none u.1 (sym none ∙ ap (get p.rows) (sym u.3.0) ∙ u.2));
      }

  may_assign_again : (s : Serial) (row : Row) → HasRow p.rows s row → MayAssign seen row.onu s
  may_assign_again s row has =
      record {
        low = (sound.units.each s row has).fits.low;
        enabled = not_disabled s (sound.units.each s row has).enabled;
        unheld = λ t e. let u = (is.holder row.onu t).0 e in sym u.3.0 ∙ apart u.0 s u.1 row u.2 has u.3.1;
        one = λ m e. let u = (is.holder m s).0 e in sym u.3.1 ∙ ap (λ (r : Row). r.onu) (one_row u.1 row (sym u.2 ∙ ap (get p.rows) u.3.0 ∙ has));
      }

  -- ---- what changes

  -- a unit has an ONU-ID from 0 to 253, which is not that of all
  low : (s : Serial) (row : Row) → HasRow p.rows s row → row.onu ≤ 253
  low s row has = (sound.units.each s row has).fits.low

  not_all : (n : ℕ) → n ≤ 253 → (n == 255) ≡ false
  not_all n h = ne_eqb n 255 (λ e. omega (arith, h, e))

  -- what Assign_ONU-ID takes is of its unit
  takes_own : (s : Serial) (n : ℕ) → n ≤ 253 → ((t : Serial) (q : Row) → HasRow p.rows t q → ((q.onu == n) ≡ false) ⊎ ((q.onu == n) ≡ same_serial t s)) → AreOf p.rows (drops seen (AssignOnu n s)) s
  takes_own s n small either t q there =
      ap (λ b. b && (q.onu == n || is_of seen s q.onu)) (le-leb n 253 small) ∙ ap (λ b. q.onu == n || b) (of_serial p.rows p.disabled seen is s t q there) ∙ by_onu (either t q there)
    where
      twice : (b : Bool) → (b || b) ≡ b
      twice true = refl
      twice false = refl

      by_onu : ((q.onu == n) ≡ false) ⊎ ((q.onu == n) ≡ same_serial t s) → ((q.onu == n) || same_serial t s) ≡ same_serial t s
      by_onu (inl e) = ap (λ b. b || same_serial t s) e
      by_onu (inr e) = ap (λ b. b || same_serial t s) e ∙ twice (same_serial t s)

  with_low : (n : ℕ) (s : Serial) (known : Observed) → n ≤ 253 → with_holder known n s ≡ record known { holder = insert known.holder n s }
  with_low n s known small = ap (λ b. cond b (record known { holder = insert known.holder n s }) known) (le-leb n 253 small)

  told_new : (s : Serial) (n : ℕ) → n ≤ 253 → get p.rows s ≡ None → ((t : Serial) (row : Row) → HasRow p.rows t row → row.onu ≡ n → ⊥) → IsKnown (insert p.rows s (new_row n)) p.disabled (observed_after seen (AssignOnu n s))
  told_new s n small none unused =
      subst (λ x. IsKnown (insert p.rows s (new_row n)) p.disabled x) (sym (with_low n s (units_without seen (drops seen (AssignOnu n s))) small))
      (known_new p.rows p.disabled (units_without seen (drops seen (AssignOnu n s)))
      (known_dropped p.rows p.disabled seen is p.rows s (drops seen (AssignOnu n s)) (λ t q other. (λ h. h, λ h. h)) (λ q h. not_none q (sym none ∙ h))
      (takes_own s n small (λ t q has. inl (ne_eqb q.onu n (unused t q has))))) s n none unused)

  told_again : (s : Serial) (row : Row) → HasRow p.rows s row → IsKnown (insert p.rows s (new_row row.onu)) p.disabled (observed_after seen (AssignOnu row.onu s))
  told_again s row has =
      subst (λ x. IsKnown (insert p.rows s (new_row row.onu)) p.disabled x) (sym (with_low row.onu s (units_without seen (drops seen (AssignOnu row.onu s))) (low s row has)))
      (subst (λ (rows : Rows). IsKnown rows p.disabled (record (units_without seen (drops seen (AssignOnu row.onu s))) { holder = insert (units_without seen (drops seen (AssignOnu row.onu s))).holder row.onu s })) (put_again p.rows s (new_row row.onu))
      (known_new (remove p.rows s) p.disabled (units_without seen (drops seen (AssignOnu row.onu s)))
      (known_dropped p.rows p.disabled seen is (remove p.rows s) s (drops seen (AssignOnu row.onu s)) (others_left p.rows s) (λ q h. no_row p.rows s q h)
      (takes_own s row.onu (low s row has) (λ t q there. inr (of_onu p.rows p.disabled seen is apart s row has t q there)))) s row.onu (gone p.rows s)
      (λ t q h same. let left = has_left p.rows s t q h in false≢true (sym left.0 ∙ ap (λ (x : Serial). same_serial x s) (apart t s q row left.1 has same) ∙ same_serial-itself s))))

  pub polled : (s : Serial) (row : Row) (outcome : Outcome) → HasRow p.rows s row → IsKnown (insert p.rows s (row_polled row outcome)) p.disabled seen
  polled s row outcome has = known_alike p.rows p.disabled seen is s row (row_polled row outcome) has (polled_alike row outcome)

  pub removed : (s : Serial) (row : Row) → HasRow p.rows s row → IsKnown (remove p.rows s) p.disabled (observed_after seen (Deactivate row.onu))
  removed s row has =
      known_dropped p.rows p.disabled seen is (remove p.rows s) s (drops seen (Deactivate row.onu)) (others_left p.rows s) (λ q h. no_row p.rows s q h)
      (λ t q there. ap (λ b. b || q.onu == row.onu) (not_all row.onu (low s row has)) ∙ of_onu p.rows p.disabled seen is apart s row has t q there)

  -- a unit may be told that it is removed
  pub leaves : (s : Serial) (row : Row) → HasRow p.rows s row → KeepsRules seen (Deactivate row.onu)
  leaves s row has = (held s row has, low s row has)

  -- ---- a search window

  refused_burst : (refusal : Refusal) → IsTold p seen (refuses_burst refusal)
  refused_burst refusal = λ n may. (is, tt)

  with_room : (d : Response) → IsTold p seen d → IsTold p seen (if_room p d)
  with_room d done = by_causes (IsTold p seen) refuses_burst (busy_causes p) d refused_burst (λ none. done)

  newcomer : (u : ℕ) (s : Serial) → contains p.disabled s ≡ false → get p.rows s ≡ None → IsTold p seen (newcomer_response u p s)
  newcomer u s enabled none =
      by_causes (IsTold p seen) refuses_burst (newcomer_causes u p) (GivesOnu s) refused_burst
      (λ causes n free. (told_new s n (small n free.low) none free.unused, (may_assign_new s n (small n free.low) enabled none free.unused, tt)))
    where
      small : (n : ℕ) → n < 254 → n ≤ 253
      small n h = omega arith

  again : (s : Serial) (row : Row) → HasRow p.rows s row → IsTold p seen (again_response p s row.onu)
  again s row has =
      by_test (IsTold p seen) (owes_assign p row.onu s) _ _ (λ told n may. (is, tt))
      (λ untold. with_room _ (λ n may. (told_again s row has, (may_assign_again s row has, tt))))

  active : (s : Serial) (row : Row) → HasRow p.rows s row → (phase : Phase) → IsTold p seen (active_response p s row.onu phase)
  active s row has (Ranging attempts heard) = again s row has
  active s row has (Operating eqd dark garbled) = with_room _ (λ n may. (removed s row has, (leaves s row has, tt)))

  enabled : (u : ℕ) (s : Serial) → contains p.disabled s ≡ false → (o : Option Row) → get p.rows s ≡ o → IsTold p seen (enabled_response u p s o)
  enabled u s free None none = newcomer u s free none
  enabled u s free (Some row) has = active s row has row.phase

  in_search : (u : ℕ) (message : Up) → IsTold p seen (search_response u p message)
  in_search u (SerialNumber octet1 s random flags) =
      by_causes (IsTold p seen) refuses_burst (search_causes p octet1 s) (admitted_response u p s) refused_burst
      (λ causes. by_test (IsTold p seen) (contains p.disabled s) (alarms DisabledSeen Df s []) (enabled_response u p s (get p.rows s)) (λ disabled n may. (is, tt)) (λ free. enabled u s free (get p.rows s) refl))
  in_search u message = refused_burst WrongWindow

  -- ---- a ranging window

  measured : (s : Serial) (row : Row) → HasRow p.rows s row → is_ranging row.phase ≡ true → (o : Option ℕ) → IsTold p seen (measured_response p s row o)
  measured s row has ranges None = λ n may. (is, tt)
  measured s row has ranges (Some eqd) = with_room _ (λ n may. (known_measured p.rows p.disabled seen is apart s row eqd has, (unranged s row has ranges, tt)))

  in_range : (at : ℕ) (s : Serial) (row : Row) (message : Up) → HasRow p.rows s row → is_ranging row.phase ≡ true → IsTold p seen (ranging_response p at s row message)
  in_range at s row (SerialNumber octet1 told random flags) has ranges =
      by_causes (IsTold p seen) refuses_burst (stranger_causes (same_serial told s)) (measured_response p s row (equalization_delay p.config.teqd at)) refused_burst
      (λ causes. measured s row has ranges (equalization_delay p.config.teqd at))
  in_range at s row (DyingGasp octet1) has ranges = λ n may. (is, tt)
  in_range at s row message has ranges = λ n may. (is, tt)

  -- ---- a poll window

  alive : (s : Serial) (row : Row) → HasRow p.rows s row → (o : Option AlarmKind) → IsTold p seen (alive_response s row o)
  alive s row has None = λ n may. (polled s row poll.Good has, tt)
  alive s row has (Some kind) = λ n may. (removed s row has, (leaves s row has, tt))

  acknowledged : (s : Serial) (row : Row) → HasRow p.rows s row → (o : Option ℕ) → IsTold p seen (acknowledged_response s row o)
  acknowledged s row has None = alive s row has (alarm_polled row poll.Good)
  acknowledged s row has (Some a) =
      λ n may. (known_alike p.rows p.disabled seen is s row _ has (alike_both row (row_polled row poll.Acked) _ (polled_alike row poll.Acked) (acknowledged_alike (row_polled row poll.Acked) a)), tt)

  in_poll : (s : Serial) (row : Row) (message : Up) → HasRow p.rows s row → IsTold p seen (operating_response s row message)
  in_poll s row (Acknowledge octet1 id copy) has =
      by_test (IsTold p seen) (id == 10) _ _ (λ alloc. acknowledged s row has row.pending) (λ other. alive s row has (alarm_polled row poll.Good))
  in_poll s row (DyingGasp octet1) has = λ n may. (polled s row poll.Gasped has, tt)
  in_poll s row message has = alive s row has (alarm_polled row poll.Good)

  -- ---- any window

  directed : (response : Serial → Row → Up → Response) (n : ℕ) (message : Up) → ((s : Serial) (row : Row) → HasRow p.rows s row → (row.onu == n) ≡ true → IsTold p seen (response s row message))
      → (o : Option (Serial × Row)) → unit_with p.rows n ≡ o → IsTold p seen (directed_response response n message o)
  directed response n message each None none = refused_burst WrongWindow
  directed response n message each (Some (s, row)) there =
      by_causes (IsTold p seen) refuses_burst (stranger_causes (octet1_of message == n)) (response s row message) refused_burst (λ causes. let it = found p.rows (λ (r : Row). r.onu == n) s row there in each s row it.0 it.1)

  -- the unit that a ranging window asks ranges
  asked_ranges : (n : ℕ) (s : Serial) (row : Row) → Ranges p.rows n → HasRow p.rows s row → (row.onu == n) ≡ true → is_ranging row.phase ≡ true
  asked_ranges n s row asked has is_n =
      let same : asked.1 ≡ row = one_row asked.1 row (sym asked.2 ∙ ap (get p.rows) (apart asked.0 s asked.1 row asked.2 has (asked.4 ∙ sym (eqb-true row.onu n is_n))) ∙ has) in
      subst (λ (r : Row). is_ranging r.phase ≡ true) same asked.3

  by_grant : (u at : ℕ) (g : Grant) (message : Up) → IsAskedBy p.rows g → IsTold p seen (message_response u p at g message)
  by_grant u at Search message asked = in_search u message
  by_grant u at (Range n) message asked = directed (λ s row m. ranging_response p at s row m) n message (λ s row has is_n. in_range at s row message has (asked_ranges n s row asked has is_n)) (unit_with p.rows n) refl
  by_grant u at (Poll n) message asked = directed (λ s row m. operating_response s row m) n message (λ s row has is_n. in_poll s row message has) (unit_with p.rows n) refl

  heard_in : (u at : ℕ) (g : Grant) (heard : Option Up) → IsAskedBy p.rows g → IsTold p seen (heard_response u p at g heard)
  heard_in u at g None asked = refused_burst Garbled
  heard_in u at g (Some message) asked = by_grant u at g message asked

  by_window : (u at : ℕ) (heard : Option Up) (o : Option WindowState) → IsAsked p.rows o → IsTold p seen (windowed_response u p at heard o)
  by_window u at heard None asked = refused_burst Stray
  by_window u at heard (Some w) asked = heard_in u at w.grant heard asked

  pub told_burst : (u at : ℕ) (heard : Option Up) → IsTold p seen (burst_response u p at heard)
  told_burst u at heard = by_window u at heard p.window sound.window.asked

  -- ---- commands

  refused : (refusal : Refusal) → IsTold p seen (refuses refusal)
  refused refusal = λ n may. (is, tt)

  alloc : (s : Serial) (row : Row) → HasRow p.rows s row → IsTold p seen (alloc_response p s row)
  alloc s row has =
      by_causes (IsTold p seen) refuses (alloc_causes p row) (GivesAlloc s row) refused
      (λ causes a free.
      let none : (t : Serial) (q : Row) → HasRow p.rows t q → holds_alloc a q ≡ true → ⊥ = λ t q h holds. false≢true (sym (free.unused t q h) ∙ has_held q a holds) in
      (known_alloc p.rows p.disabled seen is apart s row a has none, ((ranged s row has (not_false (is_operating row.phase) causes.0), free.above, λ m e. let u = (is.alloc a m).0 e in absurd (none u.0 u.1 u.2 u.3.1)), tt)))

  dealloc : (s : Serial) (a : ℕ) (row : Row) → HasRow p.rows s row → IsTold p seen (dealloc_response p s a row)
  dealloc s a row has =
      by_causes (IsTold p seen) refuses (dealloc_causes p row a) _ refused
      (λ causes n may.
      let holds : holds_alloc a row ≡ true = not_false (holds_alloc a row) causes.1.1.0 in (
        known_back p.rows p.disabled seen is s row a has
            (λ t q other h its.
            false≢true
            (sym other ∙ ap (λ (x : Serial). same_serial x s) (sound.units.apart t s q row h has (inr (a, has_held q a its, has_held row a holds))) ∙ same_serial-itself s)),
        ((ranged s row has (not_false (is_operating row.phase) causes.0), (is.alloc a row.onu).1 (s, row, has, (refl, holds))), tt),
      ))

  disable : (s : Serial) (o : Option Row) → get p.rows s ≡ o → IsTold p seen (disable_response p s o)
  disable s None none =
      by_causes (IsTold p seen) refuses (busy_causes p) _ refused
      (λ causes n may. (with_disabled (known_absent p.rows p.disabled seen is s none), (tt, tt)))
    where
      with_disabled : IsKnown p.rows p.disabled (units_without seen (drops seen (DisableSerial s))) → IsKnown p.rows (finset.insert p.disabled s) (record (units_without seen (drops seen (DisableSerial s))) { disabled = finset.insert seen.disabled s })
      with_disabled k = record { holder = k.holder; disabled_are = ap (λ d. finset.insert d s) is.disabled_are; alloc = k.alloc; delay = k.delay }
  disable s (Some row) has =
      by_causes (IsTold p seen) refuses (busy_causes p) _ refused
      (λ causes n may. (with_disabled (known_disabled p.rows p.disabled seen is s), (tt, tt)))
    where
      with_disabled : IsKnown (remove p.rows s) p.disabled (units_without seen (drops seen (DisableSerial s))) → IsKnown (remove p.rows s) (finset.insert p.disabled s) (record (units_without seen (drops seen (DisableSerial s))) { disabled = finset.insert seen.disabled s })
      with_disabled k = record { holder = k.holder; disabled_are = ap (λ d. finset.insert d s) is.disabled_are; alloc = k.alloc; delay = k.delay }

  pub told_command : (c : Command) → IsTold p seen (command_response p c)
  told_command command.Search = by_causes (IsTold p seen) refuses (searching_causes p) _ refused (λ causes n may. (is, tt))
  told_command (command.Alloc s) = by_active (IsTold p seen) p s (λ (row : Row). alloc_response p s row) refused (λ row has. alloc s row has)
  told_command (command.Dealloc s a) = by_active (IsTold p seen) p s (λ (row : Row). dealloc_response p s a row) refused (λ row has. dealloc s a row has)
  told_command (command.Deactivate s) =
      by_active (IsTold p seen) p s (λ (row : Row). deactivate_response p s row) refused
      (λ row has. by_causes (IsTold p seen) refuses (busy_causes p) _ refused (λ causes n may. (removed s row has, (leaves s row has, tt))))
  told_command (command.Disable s) = by_unit (IsTold p seen) p s (λ (o : Option Row). disable_response p s o) refused (λ admitted o there. disable s o there)
  told_command (command.Enable s) =
      by_unit (IsTold p seen) p s (λ (o : Option Row). enable_response p s o) refused
      (λ admitted o there.
      by_causes (IsTold p seen) refuses (busy_causes p) _ refused
      (λ causes n may. (record { holder = is.holder; disabled_are = ap (λ d. finset.remove d s) is.disabled_are; alloc = is.alloc; delay = is.delay }, (tt, tt))))
  told_command command.EnableAll =
      by_causes (IsTold p seen) refuses (busy_causes p) _ refused
      (λ causes n may. (record { holder = is.holder; disabled_are = refl; alloc = is.alloc; delay = is.delay }, (tt, tt)))
  told_command (command.Popup s) =
      by_active (IsTold p seen) p s (λ (row : Row). popup_response p row) refused
      (λ row has. by_causes (IsTold p seen) refuses (popup_causes p row) _ refused (λ causes n may. (same_known row has, ((λ differs. ranged s row has (not_false (is_operating row.phase) causes.0)), tt))))
    where
      same_known : (row : Row) → HasRow p.rows s row → IsKnown p.rows p.disabled (popped_up seen (row.onu == 255))
      same_known row has =
          subst (λ b. IsKnown p.rows p.disabled (popped_up seen b)) (sym (not_all row.onu (low s row has))) is
  told_command command.PopupAll = by_causes (IsTold p seen) refuses (busy_causes p) _ refused (λ causes n may. (known_popped p.rows p.disabled seen is, ((λ differs. absurd (differs refl)), tt)))
  told_command (command.Show s) = by_active (IsTold p seen) p s _ refused (λ row has n may. (is, tt))
