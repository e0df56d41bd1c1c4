-- What an observer hears of a frame.
use Rattle.std.proofs.Common.{◌≡◌, Bool, ℕ, cond, List, [], ◌∷◌, ◌++◌, Option, None, Some, refl, sym, ap, subst, drop}
use Rattle.gp_volley.specs.Copies.{first_of}
use Rattle.gp_ploam.specs.declared.message.Down.{Down}
use Rattle.gp_ranging.specs.declared.grant.Grant.{Grant}
use Rattle.gp_ranging.specs.declared.grant.Grant.TheVariants.{Search, Range, Poll}
use Rattle.gp_ranging.specs.Window.{WindowState}
use Rattle.gp_machine.specs.declared.event.Event.TheVariants as event
use Rattle.gp_machine.specs.State.{PortState, Rows}
use Rattle.gp_machine.specs.Sound.{IsSound, IsAsked, IsAskedBy}
use Rattle.gp_machine.specs.Changes.{state_after, owed_by}
use Rattle.gp_machine.specs.Responses.{MayPick, Response, changes_with}
use Rattle.gp_machine.specs.Frame.{state_begun}
use Rattle.gp_machine.specs.Step.{IsResponse}
use Rattle.gp_observer.specs.declared.rule.Rule.TheVariants as rule
use Rattle.gp_observer.specs.Observer.{Observed, observed_after_all}
use Rattle.gp_observer.specs.Knows.{IsKnown}
use Rattle.gp_observer.specs.Watch.{Watch}
use Rattle.gp_observer.specs.Rules.{Settings}
use Rattle.gp_observer.specs.Fibre.{down_said, grant_said}
use Rattle.gp_observer.proofs.Keeping.{AllKeepRules}
use Rattle.gp_observer.proofs.Agreeing.{Agrees}
use Rattle.gp_observer.proofs.Answering.{Unmoved, are_owed_weaker}
use Rattle.gp_observer.proofs.Judging.{MayGrant, grant_breaks_none}
use Rattle.gp_observer.proofs.Telling.{held, ranged}
use Rattle.gp_observer.proofs.TellingFrames.{told_step}
use Rattle.gp_observer.proofs.Causing.{Causes, grant_of}
use Rattle.gp_observer.proofs.CausingFrames.{NoneMeasured, nobody_asks, caused_frame}
use Rattle.gp_observer.proofs.Watching.{Answered, Watching}
use Rattle.gp_observer.proofs.Listening.{hears_nothing}
use Rattle.gp_observer.proofs.Sending.{Sent, frame_sends}
use Rattle.gp_observer.proofs.Owing.{none_left, watching_more}
use Rattle.gp_observer.proofs.Hearing.{Goes, goes_both, changes_owe, stays_unmoved}

-- a grant asks a unit that it may ask, where the observer knows the units
may_grant : (p : PortState) (sound : IsSound p) (w : Watch) (s : Observed) (agrees : Agrees w.unknown w.seen s) → IsKnown p.rows p.disabled s → (g : Grant) → IsAskedBy p.rows g → MayGrant w s agrees g
may_grant p sound w s agrees is Search asked = tt
may_grant p sound w s agrees is (Range n) asked = subst (λ k. MayGrant w s agrees (Range k)) asked.4 (held p sound s is asked.0 asked.1 asked.2)
may_grant p sound w s agrees is (Poll n) asked = subst (λ k. MayGrant w s agrees (Poll k)) asked.4 (ranged p sound s is asked.0 asked.1 asked.2 asked.3)

module _ (settings : Settings) (first : Bool) (u : ℕ) (p : PortState) (d : Response) (k : ℕ) (w : Watch) (s : Observed) (ms : List Down) (sound : IsSound p) (is : Watching settings first p w s ms) (said : IsResponse u p event.Frame d) (may : MayPick (state_begun p) d k) where
  abbrev ns : List Down
  ns = owed_by (changes_with d k)

  abbrev q : PortState
  q = state_after (state_begun p) (changes_with d k)

  abbrev sent : Sent settings first p w s ms
  sent = frame_sends settings first p w s ms is

  abbrev seen : Observed
  seen = observed_after_all sent.then sent.rest

  told : IsKnown q.rows q.disabled (observed_after_all seen ns) × AllKeepRules seen ns
  told = told_step u p event.Frame d seen sound sent.watching.known said k may

  causes : Causes p (state_begun p) NoneMeasured nobody_asks seen (grant_of d) (changes_with d k)
  causes =
      subst (λ (x : Response). (j : ℕ) → MayPick (state_begun p) x j → Causes p (state_begun p) NoneMeasured nobody_asks seen (grant_of x) (changes_with x j)) (sym said.4) (caused_frame p said.0 said.1 seen)
      k may

  none_to_tell : p.owed ≡ [] → sent.rest ≡ []
  none_to_tell none = none_left settings first (state_begun p) sent.new sent.then sent.rest sent.watching (ap (drop 1) none)

  watched : Watching settings first q sent.new sent.then (sent.rest ++ ns)
  watched =
      watching_more settings first (state_begun p) q sent.new sent.new sent.then sent.rest ns sent.watching nobody_asks (hears_nothing sent.new nobody_asks (λ t. refl)) told.0 told.1 causes.few
      (are_owed_weaker NoneMeasured (λ n eqd. Answered settings sent.new n eqd × Unmoved sent.then n sent.rest) seen ns (λ n eqd h. absurd h) causes.owed) (changes_owe (state_begun p) (changes_with d k))
      (stays_unmoved p q sent.then sent.rest ns none_to_tell sent.watching.window causes.leaves)

  granted : IsSound q → (o : Option Grant) → grant_of d ≡ o → Goes settings first sent.new q (grant_said o)
  granted after None e = record { breaks_none = refl; then = sent.then; rest = sent.rest ++ ns; watching = watched }
  granted after (Some g) e =
      record {
        breaks_none = ap (λ b. cond b (rule.Grant ∷ []) [] ++ []) (grant_breaks_none sent.new sent.then sent.watching.agrees g (may_grant p sound sent.new sent.then sent.watching.agrees known g asked));
        then = sent.then;
        rest = sent.rest ++ ns;
        watching = watched;
      }
    where
      known : IsKnown p.rows p.disabled sent.then
      known = subst (λ (xs : List Down). IsKnown p.rows p.disabled (observed_after_all sent.then xs)) (none_to_tell (causes.grants g e).0) sent.watching.known

      asked : IsAskedBy p.rows g
      asked = subst (λ (rows : Rows). IsAskedBy rows g) (causes.grants g e).3 (subst (λ (x : Option WindowState). IsAsked q.rows x) (causes.grants g e).2 after.window.asked)

  pub frame_goes : IsSound q → Goes settings first w q (down_said (first_of p.owed) ++ grant_said (grant_of d))
  frame_goes after =
      goes_both settings first w q (down_said (first_of p.owed)) (grant_said (grant_of d)) sent.breaks_none (subst (λ (x : Watch). Goes settings first x q (grant_said (grant_of d))) (sym sent.hears) (granted after (grant_of d) refl))
