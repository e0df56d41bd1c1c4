-- An observer that begins in the middle of a run.
use Rattle.std.proofs.Common.{◌≡◌, ℕ, ◌≤◌, true, false, List, [], refl, sym, ap, subst, ◌∙◌, arith, inr}
use Rattle.std.specs.Ordering.{nat_cmp}
use Rattle.std.specs.FinMap.{get-empty}
use Rattle.std.specs.FinSet.{contains}
use Rattle.std.proofs.lemmas.Bool.{false≢true}
use Rattle.gp_ploam.specs.declared.message.Down.{Down}
use Rattle.gp_ploam.specs.Mask.{mask_value}
use Rattle.gp_machine.specs.declared.config.PortConfig.{PortConfig}
use Rattle.gp_machine.specs.declared.entry.Entry.{Entry}
use Rattle.gp_machine.specs.State.{PortState, opening_of}
use Rattle.gp_machine.specs.Run.{Run, IsReached}
use Rattle.gp_machine.specs.OneStep.{HearsOneThing}
use Rattle.gp_machine.proofs.SoundFrames.{sound_opening}
use Rattle.gp_laws.proofs.WholeRuns.{every_state, keeps_configuration}
use Rattle.gp_observer.specs.Observer.{Observed, nothing_observed}
use Rattle.gp_observer.specs.Watch.{Watch, numbers_below, watch_begun}
use Rattle.gp_observer.specs.Rules.{Settings}
use Rattle.gp_observer.specs.Heard.{Heard, watch_after_all}
use Rattle.gp_observer.specs.Fibre.{RunSays, TerminalBreaksNoRuleMidway}
use Rattle.gp_observer.proofs.Listed.{not_none}
use Rattle.gp_observer.proofs.Answering.{are_owed_weaker}
use Rattle.gp_observer.proofs.Low.{high, agrees_nothing, owed_low}
use Rattle.gp_observer.proofs.Watching.{Answered, Watching}
use Rattle.gp_observer.proofs.Hearing.{Goes}
use Rattle.gp_observer.proofs.HearingRuns.{run_goes, opening_watched, every_run}

-- it begins to watch where another one watched from the first message on
midway_watched : (settings : Settings) (p : PortState) (w : Watch) (s : Observed) (ms : List Down) → Watching settings true p w s ms → Watching settings false p (watch_begun true) s ms
midway_watched settings p w s ms is =
    record {
      known = is.known;
      keep = is.keep;
      agrees = agrees_nothing s is.numbers;
      whole = λ heard room. absurd (false≢true heard);
      followed = λ n t h. absurd (not_none t (sym (get-empty nat_cmp n) ∙ h));
      begun = refl;
      asked = λ heard. absurd (false≢true heard);
      answered = are_owed_weaker (λ n eqd. Answered settings w n eqd × (n ≤ 253)) (Answered settings (watch_begun true)) s ms (λ n eqd h j. absurd (too_high n j h.1)) (owed_low (Answered settings w) s ms is.numbers is.keep is.answered);
      left = is.left;
      copied = is.copied;
      copies = is.copies;
      message = is.message;
      phase = inr (record { late = refl; cut = refl; to_come = refl; seen = refl; unknown = refl; passed = λ k e. refl });
      numbers = is.numbers;
      window = is.window;
    }
  where
    too_high : (n : ℕ) → contains (numbers_below 254) n ≡ false → n ≤ 253 → ⊥
    too_high n j low = let large = high n j in omega arith

pub goes_midway : HearsOneThing → (c : PortConfig) (p q : PortState) (es : List Entry) (said : List Heard) (settings : Settings)
    → IsReached c p → Run p es q → RunSays (mask_value c.mask) es said → settings.teqd ≡ c.teqd → Goes settings false (watch_begun true) q said
goes_midway one c p q es said settings reached run says teqd =
    let sound = every_state c p reached in
    let config : p.config ≡ c = keeps_configuration c p reached in
    let before = every_run (opening_of c) p reached.0 reached.1 in
    let begun = run_goes one settings true (opening_of c) p reached.0 before.0 (watch_begun false) nothing_observed [] (sound_opening c) teqd (opening_watched settings c) reached.1 before.1 in
    run_goes one settings false p q es said (watch_begun true) begun.then begun.rest sound (teqd ∙ sym (ap (λ (x : PortConfig). x.teqd) config))
    (midway_watched settings p (watch_after_all (watch_begun false) before.0) begun.then begun.rest begun.watching) run
    (subst (λ (x : PortConfig). RunSays (mask_value x.mask) es said) (sym config) says)

pub breaks_no_rule_midway : HearsOneThing → TerminalBreaksNoRuleMidway
breaks_no_rule_midway one c p q es said settings reached run says teqd = (goes_midway one c p q es said settings reached run says teqd).breaks_none
