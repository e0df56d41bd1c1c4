-- What an observer hears of a command: nothing.
use Rattle.std.proofs.Common.{◌≡◌, Bool, ℕ, List, [], ◌++◌, Option, None, Some, refl, sym, subst}
use Rattle.gp_ploam.specs.declared.message.Down.{Down}
use Rattle.gp_ploam.specs.declared.message.Up.{Up}
use Rattle.gp_ploam.specs.declared.message.Up.TheVariants.{SerialNumber}
use Rattle.gp_machine.specs.declared.event.Event.TheVariants as event
use Rattle.gp_machine.specs.State.{PortState}
use Rattle.gp_machine.specs.Sound.{IsSound}
use Rattle.gp_machine.specs.Changes.{state_after, owed_by}
use Rattle.gp_machine.specs.Responses.{MayPick, Response, changes_with}
use Rattle.gp_machine.specs.declared.event.Command.{Command}
use Rattle.gp_machine.specs.Step.{IsResponse}
use Rattle.gp_observer.specs.Observer.{Observed, observed_after_all}
use Rattle.gp_observer.specs.Knows.{IsKnown}
use Rattle.gp_observer.specs.Watch.{Watch}
use Rattle.gp_observer.specs.Rules.{Settings}
use Rattle.gp_observer.proofs.Keeping.{AllKeepRules}
use Rattle.gp_observer.proofs.Answering.{Unmoved, are_owed_weaker}
use Rattle.gp_observer.proofs.TellingFrames.{told_step}
use Rattle.gp_observer.proofs.Causing.{IsMeasured, Causes, asks_in, grant_of, caused_command}
use Rattle.gp_observer.proofs.Watching.{Answered, Watching}
use Rattle.gp_observer.proofs.Listening.{hears_nothing}
use Rattle.gp_observer.proofs.Owing.{none_left, watching_more}
use Rattle.gp_observer.proofs.Hearing.{Goes, changes_owe, stays_unmoved}

module _ (settings : Settings) (first : Bool) (u : ℕ) (p : PortState) (d : Response) (k : ℕ) (w : Watch) (s : Observed) (ms : List Down) (sound : IsSound p) (is : Watching settings first p w s ms) (c : Command) (said : IsResponse u p (event.Command c) d) (may : MayPick p d k) where
  abbrev ns : List Down
  ns = owed_by (changes_with d k)

  abbrev q : PortState
  q = state_after p (changes_with d k)

  abbrev seen : Observed
  seen = observed_after_all s ms

  told : IsKnown q.rows q.disabled (observed_after_all seen ns) × AllKeepRules seen ns
  told = told_step u p (event.Command c) d seen sound is.known said k may

  causes : Causes p p (IsMeasured p 0 None) (asks_in None) seen (grant_of d) (changes_with d k)
  causes =
      subst (λ (x : Response). (j : ℕ) → MayPick p x j → Causes p p (IsMeasured p 0 None) (asks_in None) seen (grant_of x) (changes_with x j)) (sym said) (caused_command p sound seen is.known 0 None c) k may

  none_measured : (n eqd : ℕ) → IsMeasured p 0 None n eqd → Answered settings w n eqd × Unmoved s n ms
  none_measured n eqd m = absurd (no_burst (SerialNumber m.octet1 m.told m.random m.flags) m.burst)
    where
      no_burst : (x : Up) → ◌≡◌ {A = Option Up} None (Some x) → ⊥
      no_burst x e = cc

  pub command_goes : Goes settings first w q []
  command_goes =
      record {
        breaks_none = refl;
        then = s;
        rest = ms ++ ns;
        watching =
            watching_more settings first p q w w s ms ns is (asks_in None) (hears_nothing w (asks_in None) (λ t. refl)) told.0 told.1 causes.few
            (are_owed_weaker (IsMeasured p 0 None) (λ n eqd. Answered settings w n eqd × Unmoved s n ms) seen ns none_measured causes.owed) (changes_owe p (changes_with d k))
            (stays_unmoved p q s ms ns (none_left settings first p w s ms is) is.window causes.leaves);
      }
