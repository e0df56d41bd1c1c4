-- What an observer hears of a burst.
use Rattle.std.proofs.Common.{◌≡◌, Bool, ℕ, ◌==◌, false, List, [], ◌∷◌, ◌++◌, Option, Some, refl, sym, ap, subst, ◌∙◌, arith}
use Rattle.std.specs.FinMap.{get}
use Rattle.std.specs.FinSet.{contains}
use Rattle.std.proofs.lemmas.Bool.{ne_eqb}
use Rattle.gp_ploam.specs.declared.message.Serial.{Serial}
use Rattle.gp_ploam.specs.declared.message.Down.{Down}
use Rattle.gp_ploam.specs.declared.message.Up.{Up}
use Rattle.gp_ploam.specs.Serials.{same_serial}
use Rattle.gp_ploam.proofs.Serials.{same_serial-itself}
use Rattle.gp_machine.specs.declared.event.Event.TheVariants as event
use Rattle.gp_machine.specs.State.{PortState}
use Rattle.gp_machine.specs.Sound.{IsSound}
use Rattle.gp_machine.specs.Changes.{state_after, owed_by}
use Rattle.gp_machine.specs.Responses.{MayPick, Response, changes_with}
use Rattle.gp_machine.specs.Burst.{burst_response}
use Rattle.gp_machine.specs.Step.{IsResponse}
use Rattle.gp_observer.specs.Observer.{Observed, some_passes, observed_after_all}
use Rattle.gp_observer.specs.Knows.{IsKnown}
use Rattle.gp_observer.specs.Watch.{Watch, after_up, serial_heard}
use Rattle.gp_observer.specs.Rules.{Settings}
use Rattle.gp_observer.specs.Heard.{HeardUp}
use Rattle.gp_observer.proofs.Keeping.{AllKeepRules}
use Rattle.gp_observer.proofs.Answering.{Unmoved, are_owed_weaker, holders_unmoved, HasAnswered, answered_now}
use Rattle.gp_observer.proofs.TellingFrames.{told_step}
use Rattle.gp_observer.proofs.Causing.{IsMeasured, Causes, asks_in, grant_of, caused_burst}
use Rattle.gp_observer.proofs.Watching.{Answered, Watching}
use Rattle.gp_observer.proofs.Listening.{hears_up}
use Rattle.gp_observer.proofs.Owing.{none_left, watching_more}
use Rattle.gp_observer.proofs.Hearing.{Goes, changes_owe, stays_unmoved}

module _ (settings : Settings) (first : Bool) (u : ℕ) (p : PortState) (d : Response) (k : ℕ) (w : Watch) (s : Observed) (ms : List Down) (sound : IsSound p) (is : Watching settings first p w s ms) (at : ℕ) (bytes : List ℕ) (told_up : Option Up) (teqd : settings.teqd ≡ p.config.teqd) (said : d ≡ burst_response u p at told_up) (may : MayPick p d k) (known_told : IsResponse u p (event.Burst at bytes) d) where
  abbrev ns : List Down
  ns = owed_by (changes_with d k)

  abbrev q : PortState
  q = state_after p (changes_with d k)

  abbrev new : Watch
  new = after_up w told_up (Some at)

  abbrev seen : Observed
  seen = observed_after_all s ms

  told : IsKnown q.rows q.disabled (observed_after_all seen ns) × AllKeepRules seen ns
  told = told_step u p (event.Burst at bytes) d seen sound is.known known_told k may

  causes : Causes p p (IsMeasured p at told_up) (asks_in told_up) seen (grant_of d) (changes_with d k)
  causes =
      subst (λ (x : Response). (j : ℕ) → MayPick p x j → Causes p p (IsMeasured p at told_up) (asks_in told_up) seen (grant_of x) (changes_with x j)) (sym said) (caused_burst p sound seen is.known at told_up u) k may

  -- who is measured has answered
  measured : (n eqd : ℕ) → IsMeasured p at told_up n eqd → Answered settings new n eqd × Unmoved s n ms
  measured n eqd m = (answers, unmoved)
    where
      unmoved : Unmoved s n ms
      unmoved = is.window n m.window

      low : (n == 255) ≡ false
      low = let small = (sound.units.each m.told m.row m.has).fits.low in let same = m.its in ne_eqb n 255 (λ e. omega (arith, small, same, e))

      holds : get s.holder n ≡ Some m.told
      holds = sym (holders_unmoved s ms n unmoved) ∙ (is.known.holder n m.told).1 (m.told, m.row, m.has, (refl, m.its))

      hears : new ≡ serial_heard w n m.told (Some at)
      hears = ap (λ (x : Option Up). after_up w x (Some at)) m.burst ∙ ap (λ x. serial_heard w x m.told (Some at)) m.own

      answers : Answered settings new n eqd
      answers j =
          let judged : contains w.unknown n ≡ false = sym (ap (λ u. contains u n) (hears_up w told_up (Some at)).unknown) ∙ j in
          subst (λ (x : Watch). HasAnswered settings x.answers n eqd) (sym hears)
          (answered_now settings w n m.told at eqd low (ap (some_passes (λ (h : Serial). same_serial m.told h)) (is.agrees.holder n judged ∙ holds) ∙ same_serial-itself m.told) (m.sum ∙ sym teqd))

  pub burst_goes : Goes settings first w q (HeardUp told_up (Some at) ∷ [])
  burst_goes =
      record {
        breaks_none = refl;
        then = s;
        rest = ms ++ ns;
        watching =
            watching_more settings first p q w new s ms ns is (asks_in told_up) (hears_up w told_up (Some at)) told.0 told.1 causes.few
            (are_owed_weaker (IsMeasured p at told_up) (λ n eqd. Answered settings new n eqd × Unmoved s n ms) seen ns measured causes.owed) (changes_owe p (changes_with d k))
            (stays_unmoved p q s ms ns (none_left settings first p w s ms is) is.window causes.leaves);
      }
