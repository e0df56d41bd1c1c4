-- What an observer hears of each run from an opening: the terminal breaks no rule.
use Rattle.std.proofs.Common.{◌≡◌, Bool, true, ℕ, false, List, [], ◌∷◌, ◌++◌, Option, None, Some, refl, sym, ap, subst, ◌∙◌, arith, inl}
use Rattle.std.specs.Ordering.{nat_cmp}
use Rattle.std.specs.FinMap.{get-empty}
use Rattle.std.specs.FinSet.{contains-empty}
use Rattle.std.proofs.lemmas.Bool.{false≢true}
use Rattle.gp_volley.specs.Copies.{first_of}
use Rattle.gp_ploam.specs.declared.message.Down.{Down}
use Rattle.gp_ploam.specs.declared.message.Down.TheVariants.{NoMessage}
use Rattle.gp_ploam.specs.declared.message.Up.{Up}
use Rattle.gp_ploam.specs.Mask.{mask_value}
use Rattle.gp_ranging.specs.declared.grant.Grant.{Grant}
use Rattle.gp_machine.specs.declared.config.PortConfig.{PortConfig}
use Rattle.gp_machine.specs.declared.entry.Entry.{Entry}
use Rattle.gp_machine.specs.declared.event.Event.{Event}
use Rattle.gp_machine.specs.declared.event.Event.TheVariants as event
use Rattle.gp_machine.specs.State.{PortState, opening_of}
use Rattle.gp_machine.specs.Sound.{IsSound}
use Rattle.gp_machine.specs.Changes.{StepResult, state_after}
use Rattle.gp_machine.specs.Responses.{changes_with, answer_with}
use Rattle.gp_machine.specs.Frame.{state_begun}
use Rattle.gp_machine.specs.Step.{StepOwing}
use Rattle.gp_machine.specs.Run.{Run, entry_outcome}
use Rattle.gp_machine.specs.OneStep.{HearsOneThing}
use Rattle.gp_machine.proofs.SoundFrames.{sound_opening}
use Rattle.gp_machine.proofs.Steps.{sound_step}
use Rattle.gp_laws.proofs.WholeRuns.{step_config}
use Rattle.gp_observer.specs.Observer.{Observed, nothing_observed}
use Rattle.gp_observer.specs.Watch.{Watch, watch_begun}
use Rattle.gp_observer.specs.Rules.{Settings}
use Rattle.gp_observer.specs.Heard.{Heard, HeardUp, watch_after_all}
use Rattle.gp_observer.specs.Fibre.{down_said, grant_said, EventSays, RunSays, EveryRunIsHeard, TerminalBreaksNoRule}
use Rattle.gp_observer.proofs.TellingFrames.{opening_known}
use Rattle.gp_observer.proofs.Low.{nothing_low}
use Rattle.gp_observer.proofs.Watching.{Watching}
use Rattle.gp_observer.proofs.Hearing.{Goes, goes_both, sends, grants}
use Rattle.gp_observer.proofs.HearingFrames.{frame_goes}
use Rattle.gp_observer.proofs.HearingBursts.{burst_goes}
use Rattle.gp_observer.proofs.HearingCommands.{command_goes}

module _ (one : HearsOneThing) (settings : Settings) (first : Bool) where
  -- ---- a step

  step_goes : (u : ℕ) (p : PortState) (ev : Event) (o : StepResult) (messages : List Down) (w : Watch) (s : Observed) (ms : List Down) (said : List Heard)
      → IsSound p → settings.teqd ≡ p.config.teqd → Watching settings first p w s ms → StepOwing u p ev o messages → IsSound o.state → EventSays (mask_value p.config.mask) ev o.answer said → Goes settings first w o.state said
  step_goes u p event.Frame o messages w s ms said sound teqd is st after says =
      subst (λ (xs : List Heard). Goes settings first w o.state xs) (sym says)
      (subst (λ (x : StepResult). Goes settings first w x.state (down_said x.answer.sent ++ grant_said x.answer.grant)) (sym st.is)
      (subst (λ (x : Option Down). Goes settings first w (state_after (state_begun p) (changes_with st.response st.picked)) (down_said x ++ grant_said (answer_with (first_of p.owed) st.response st.picked).grant)) (sym (sends (first_of p.owed) st.response st.picked))
      (subst (λ (x : Option Grant). Goes settings first w (state_after (state_begun p) (changes_with st.response st.picked)) (down_said (first_of p.owed) ++ grant_said x)) (sym (grants (first_of p.owed) st.response st.picked))
      (frame_goes settings first u p st.response st.picked w s ms sound is st.said st.may (subst (λ (x : StepResult). IsSound x.state) st.is after)))))
  step_goes u p (event.Burst at bytes) o messages w s ms said sound teqd is st after says =
      let same : st.said.0 ≡ says.0 = one (mask_value p.config.mask) bytes st.said.0 says.0 st.said.1 says.1 in
      subst (λ (xs : List Heard). Goes settings first w o.state xs) (sym says.2)
      (subst (λ (x : Option Up). Goes settings first w o.state (HeardUp x (Some at) ∷ [])) same
      (subst (λ (x : StepResult). Goes settings first w x.state (HeardUp st.said.0 (Some at) ∷ [])) (sym st.is) (burst_goes settings first u p st.response st.picked w s ms sound is at bytes st.said.0 teqd st.said.2 st.may st.said)))
  step_goes u p (event.Command c) o messages w s ms said sound teqd is st after says =
      subst (λ (xs : List Heard). Goes settings first w o.state xs) (sym says)
      (subst (λ (x : StepResult). Goes settings first w x.state []) (sym st.is) (command_goes settings first u p st.response st.picked w s ms sound is c st.said st.may))

  -- ---- a run

  pub run_goes : (p q : PortState) (es : List Entry) (said : List Heard) (w : Watch) (s : Observed) (ms : List Down)
      → IsSound p → settings.teqd ≡ p.config.teqd → Watching settings first p w s ms → Run p es q → RunSays (mask_value p.config.mask) es said → Goes settings first w q said
  run_goes p q [] said w s ms sound teqd is run says =
      subst (λ (x : PortState). Goes settings first w x said) (sym run) (subst (λ (xs : List Heard). Goes settings first w p xs) (sym says) (record { breaks_none = refl; then = s; rest = ms; watching = is }))
  run_goes p q (e ∷ es) said w s ms sound teqd is run says =
      let still = sound_step e.purse_in p e.event (entry_outcome e run.0) sound run.1 in
      let now = step_goes e.purse_in p e.event (entry_outcome e run.0) run.1.0 w s ms says.0 sound teqd is run.1.1 still says.2 in
      let same : run.0.config ≡ p.config = step_config p run.0 e run.1 in
      let later = run_goes run.0 q es says.1 (watch_after_all w says.0) now.then now.rest still (teqd ∙ sym (ap (λ (c : PortConfig). c.teqd) same)) now.watching run.2
      (subst (λ (c : PortConfig). RunSays (mask_value c.mask) es says.1) (sym same) says.3) in
      subst (λ (xs : List Heard). Goes settings first w q xs) (sym says.4) (goes_both settings first w q says.0 says.1 now.breaks_none later)

-- ---- from an opening

no_value : {X : Type 0} (x : X) → ◌≡◌ {A = Option X} None (Some x) → ⊥
no_value x h = cc

pub opening_watched : (settings : Settings) (c : PortConfig) → Watching settings true (opening_of c) (watch_begun false) nothing_observed []
opening_watched settings c =
    record {
      known = opening_known c;
      keep = tt;
      agrees =
          record {
            holder = λ n j. refl;
            nobody = λ n j. absurd (false≢true (sym (contains-empty nat_cmp n) ∙ j));
            delay = λ n j. refl;
            alloc = λ a n j. (λ h. h, λ h. h);
            disabled = λ t h. h;
          };
      whole = λ heard h. (refl, λ n. contains-empty nat_cmp n);
      followed = λ n t h. absurd (no_value t (sym (get-empty nat_cmp n) ∙ h));
      begun = refl;
      asked = λ heard t a h. omega arith;
      answered = tt;
      left = 0;
      copied = NoMessage;
      copies = refl;
      message = λ k e. absurd (omega (arith, e));
      phase = inl (record { cut = refl; to_come = refl; last = λ k e. refl });
      numbers = nothing_low;
      window = λ n asks. absurd asks;
    }

pub breaks_no_rule : HearsOneThing → TerminalBreaksNoRule
breaks_no_rule one c q es said settings run says teqd = (run_goes one settings true (opening_of c) q es said (watch_begun false) nothing_observed [] (sound_opening c) teqd (opening_watched settings c) run says).breaks_none

-- ---- each run is heard

event_says : (u : ℕ) (p : PortState) (ev : Event) (o : StepResult) (messages : List Down) → StepOwing u p ev o messages → (said : List Heard) × EventSays (mask_value p.config.mask) ev o.answer said
event_says u p event.Frame o messages st = (down_said o.answer.sent ++ grant_said o.answer.grant, refl)
event_says u p (event.Burst at bytes) o messages st = (HeardUp st.said.0 (Some at) ∷ [], (st.said.0, st.said.1, refl))
event_says u p (event.Command c) o messages st = ([], refl)

pub every_run : EveryRunIsHeard
every_run p q [] run = ([], refl)
every_run p q (e ∷ es) run =
    let now = event_says e.purse_in p e.event (entry_outcome e run.0) run.1.0 run.1.1 in
    let later = every_run run.0 q es run.2 in
    let same : run.0.config ≡ p.config = step_config p run.0 e run.1 in
    (now.0 ++ later.0, (now.0, later.0, now.1, subst (λ (c : PortConfig). RunSays (mask_value c.mask) es later.0) same later.1, refl))
