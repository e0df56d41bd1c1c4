-- The same of a frame; and of each step and each run.
use Rattle.std.proofs.Common.{◌≡◌, ℕ, ◌==◌, Bool, List, [], ◌∷◌, ◌++◌, Option, None, Some, refl, sym, subst, ◌∙◌}
use Rattle.std.specs.Prelude.{is_none}
use Rattle.std.specs.Ordering.{nat_cmp}
use Rattle.std.specs.FinMap.{empty, get-empty}
use Rattle.gp_volley.specs.Copies.{first_of}
use Rattle.gp_ploam.specs.declared.message.Serial.{Serial}
use Rattle.gp_ploam.specs.declared.message.Down.{Down}
use Rattle.gp_ploam.specs.Serials.{serial_cmp}
use Rattle.gp_ranging.specs.declared.grant.Grant.{Grant}
use Rattle.gp_ranging.specs.declared.grant.Grant.TheVariants.{Search, Range, Poll}
use Rattle.gp_ranging.specs.Window.{WindowState}
use Rattle.gp_common.specs.declared.common.Common.{Common}
use Rattle.gp_common.specs.declared.decision.Decision.{Decision}
use Rattle.gp_common.specs.declared.decision.Decision.TheVariants.{Nothing, Overhead, Ask}
use Rattle.gp_alarms.specs.declared.alarm.AlarmKind.{AlarmKind}
use Rattle.gp_alarms.specs.declared.poll.Outcome as poll
use Rattle.gp_unit.specs.declared.row.Row.{Row}
use Rattle.gp_unit.specs.Rows.{row_unranged, alarm_polled}
use Rattle.gp_machine.specs.declared.config.PortConfig.{PortConfig}
use Rattle.gp_machine.specs.declared.entry.Entry.{Entry}
use Rattle.gp_machine.specs.declared.event.Event.{Event}
use Rattle.gp_machine.specs.declared.event.Event.TheVariants as event
use Rattle.gp_machine.specs.State.{PortState, HasRow, opening_of}
use Rattle.gp_machine.specs.Sound.{IsSound}
use Rattle.gp_machine.specs.Changes.{StepResult, state_after}
use Rattle.gp_machine.specs.Responses.{Response, changes_with}
use Rattle.gp_machine.specs.Closes.{unranged_response, unpolled_response, poll_ended, close_response, asked_unit}
use Rattle.gp_machine.specs.Frame.{state_begun, decided_response, decision_after, opened_response, frame_response}
use Rattle.gp_machine.specs.Step.{StepOwing, IsResponse, state_at}
use Rattle.gp_machine.specs.Run.{entry_outcome}
use Rattle.gp_machine.specs.Messages.{RunOwing}
use Rattle.gp_machine.proofs.Units.{found}
use Rattle.gp_machine.proofs.Walks.{by_test}
use Rattle.gp_machine.proofs.SoundFrames.{sound_opening}
use Rattle.gp_machine.proofs.Steps.{sound_start, sound_step}
use Rattle.gp_observer.specs.Observer.{Observed, nothing_observed, observed_after, observed_after_all}
use Rattle.gp_observer.proofs.Keeping.{AllKeepRules}
use Rattle.gp_observer.specs.Knows.{Lists, HoldsOnu, HoldsAlloc, HasDelay, IsKnown, ObserversKnowUnits}
use Rattle.gp_observer.proofs.Listed.{not_none}
use Rattle.gp_observer.proofs.Rows.{unranged_alike}
use Rattle.gp_observer.proofs.Knowing.{known_alike}
use Rattle.gp_observer.proofs.Telling.{IsTold, leaves, polled, removed, told_burst, told_command}

module _ (p : PortState) (ranging next : Option ℕ) (sound : IsSound (state_begun p)) (seen : Observed) (is : IsKnown p.rows p.disabled seen) where
  abbrev q : PortState
  q = state_begun p

  decided : (d : Common × Decision) → IsTold q seen (decided_response p d)
  decided (c, Nothing) = λ n may. (is, tt)
  decided (c, Overhead) = λ n may. (is, (tt, tt))
  decided (c, Ask g) = λ n may. (is, tt)

  unranged : (s : Serial) (row : Row) (heard : Bool) → HasRow p.rows s row → (o : Option Row) → row_unranged row heard row.phase ≡ o → IsTold q seen (unranged_response s row heard o)
  unranged s row heard has None none = λ n may. (removed q sound seen is s row has, (leaves q sound seen is s row has, tt))
  unranged s row heard has (Some again) there = λ n may. (known_alike p.rows p.disabled seen is s row again has (unranged_alike row again heard there), tt)

  unpolled : (s : Serial) (row : Row) (ended : poll.Outcome) → HasRow p.rows s row → (o : Option AlarmKind) → IsTold q seen (unpolled_response s row ended o)
  unpolled s row ended has None = λ n may. (polled q sound seen is s row ended has, tt)
  unpolled s row ended has (Some kind) = λ n may. (removed q sound seen is s row has, (leaves q sound seen is s row has, tt))

  closes : (heard : Bool) (g : Grant) (o : Option (Serial × Row)) → asked_unit p g ≡ o → IsTold q seen (close_response heard g o)
  closes heard Search o there = λ n may. (is, tt)
  closes heard (Range n) None there = λ n may. (is, tt)
  closes heard (Poll n) None there = λ n may. (is, tt)
  closes heard (Range n) (Some (s, row)) there = unranged s row heard (found p.rows (λ (r : Row). r.onu == n) s row there).0 (row_unranged row heard row.phase) refl
  closes heard (Poll n) (Some (s, row)) there = unpolled s row (poll_ended heard) (found p.rows (λ (r : Row). r.onu == n) s row there).0 (alarm_polled row (poll_ended heard))

  by_window : (o : Option WindowState) → IsTold q seen (opened_response p ranging next o)
  by_window None = by_test (IsTold q seen) (is_none (first_of p.owed)) _ _ (λ idle. decided (decision_after p ranging next)) (λ busy n may. (is, tt))
  by_window (Some w) = by_test (IsTold q seen) (w.left == 1) _ _ (λ last. closes w.seen w.grant (asked_unit p w.grant) refl) (λ more n may. (is, tt))

  pub told_frame : IsTold q seen (frame_response p ranging next)
  told_frame = by_window p.window

pub told_step : (u : ℕ) (p : PortState) (e : Event) (d : Response) (seen : Observed) → IsSound p → IsKnown p.rows p.disabled seen → IsResponse u p e d → IsTold (state_at p e) seen d
told_step u p event.Frame d seen sound is said = subst (λ (x : Response). IsTold (state_begun p) seen x) (sym said.4) (told_frame p said.0 said.1 (sound_start p event.Frame sound) seen is)
told_step u p (event.Burst at bytes) d seen sound is said = subst (λ (x : Response). IsTold p seen x) (sym said.2) (told_burst p sound seen is u at said.0)
told_step u p (event.Command c) d seen sound is said = subst (λ (x : Response). IsTold p seen x) (sym said) (told_command p sound seen is c)

-- ---- a step

abbrev pub Goes : PortState → Observed → List Down → Type 0
Goes q seen messages = IsKnown q.rows q.disabled (observed_after_all seen messages) × AllKeepRules seen messages

pub step_goes : (u : ℕ) (p : PortState) (e : Event) (o : StepResult) (messages : List Down) (seen : Observed) → IsSound p → IsKnown p.rows p.disabled seen → StepOwing u p e o messages → Goes o.state seen messages
step_goes u p e o messages seen sound is s =
    subst (λ (x : StepResult). Goes x.state seen messages) (sym s.is)
    (subst (λ (ms : List Down). Goes (state_after (state_at p e) (changes_with s.response s.picked)) seen ms) (sym s.owes) (told_step u p e s.response seen sound is s.said s.picked s.may))

-- ---- a run

pub after_both : (ms ns : List Down) (seen : Observed) → observed_after_all seen (ms ++ ns) ≡ observed_after_all (observed_after_all seen ms) ns
after_both [] ns seen = refl
after_both (m ∷ ms) ns seen = after_both ms ns (observed_after seen m)

pub keep_both : (ms ns : List Down) (seen : Observed) → AllKeepRules seen ms → AllKeepRules (observed_after_all seen ms) ns → AllKeepRules seen (ms ++ ns)
keep_both [] ns seen h k = k
keep_both (m ∷ ms) ns seen h k = (h.0, keep_both ms ns (observed_after seen m) h.1 k)

pub run_goes : (p q : PortState) (es : List Entry) (messages : List Down) (seen : Observed) → IsSound p → IsKnown p.rows p.disabled seen → RunOwing p es messages q → Goes q seen messages
run_goes p q [] messages seen sound is h =
    subst (λ (x : PortState). Goes x seen messages) (sym h.0) (subst (λ (ms : List Down). Goes p seen ms) (sym h.1) (is, tt))
run_goes p q (e ∷ es) messages seen sound is h =
    let now = step_goes e.purse_in p e.event (entry_outcome e h.0) h.1 seen sound is h.3 in
    let still = sound_step e.purse_in p e.event (entry_outcome e h.0) sound (h.1, h.3) in
    let later = run_goes h.0 q es h.2 (observed_after_all seen h.1) still now.0 h.4 in
    subst (λ (ms : List Down). Goes q seen ms) (sym h.5)
    (subst (λ (x : Observed). IsKnown q.rows q.disabled x) (sym (after_both h.1 h.2 seen)) later.0, keep_both h.1 h.2 seen now.1 later.1)

-- ---- from an opening

lists_none : {X : Type 0} (P : ℕ → X → Serial → Row → Type 0) → Lists P empty empty
lists_none P k x = (λ e. absurd (not_none x (sym (get-empty nat_cmp k) ∙ e)), λ u. absurd (not_none u.1 (sym (get-empty serial_cmp u.0) ∙ u.2)))

pub opening_known : (c : PortConfig) → IsKnown (opening_of c).rows (opening_of c).disabled nothing_observed
opening_known c = record { holder = lists_none HoldsOnu; disabled_are = refl; alloc = lists_none HoldsAlloc; delay = lists_none HasDelay }

pub know_units : ObserversKnowUnits
know_units c q es messages h = (run_goes (opening_of c) q es messages nothing_observed (sound_opening c) (opening_known c) h).0

pub keep_rules : (c : PortConfig) (q : PortState) (es : List Entry) (messages : List Down) → RunOwing (opening_of c) es messages q → AllKeepRules nothing_observed messages
keep_rules c q es messages h = (run_goes (opening_of c) q es messages nothing_observed (sound_opening c) (opening_known c) h).1
