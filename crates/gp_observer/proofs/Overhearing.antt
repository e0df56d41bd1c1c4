-- An observer that has heard all that a port owes knows its units.
use Rattle.std.proofs.Common.{◌≡◌, ℕ, Bool, true, false, not, List, [], ◌∷◌, refl, sym, ap, subst, ◌∙◌, drop, ◌++◌, nat_lt}
use Rattle.std.specs.FinMap.{len}
use Rattle.std.specs.FinSet.{FinSet, contains}
use Rattle.std.proofs.lemmas.Bool.{false≢true}
use Rattle.gp_volley.specs.Copies.{first_of}
use Rattle.gp_ploam.specs.declared.message.Down.{Down}
use Rattle.gp_ploam.specs.Serials.{serial_cmp}
use Rattle.gp_machine.specs.declared.config.PortConfig.{PortConfig}
use Rattle.gp_machine.specs.State.{Rows, PortState, opening_of}
use Rattle.gp_machine.specs.Frame.{state_begun}
use Rattle.gp_machine.specs.OneStep.{HearsOneThing}
use Rattle.gp_machine.proofs.SoundFrames.{sound_opening}
use Rattle.gp_observer.specs.Observer.{Observed, nothing_observed}
use Rattle.gp_observer.specs.Watch.{Watch, watch_begun, most_followed}
use Rattle.gp_observer.specs.Rules.{Settings, is_judged}
use Rattle.gp_observer.specs.Heard.{Heard, watch_after_all}
use Rattle.gp_observer.specs.Fibre.{down_said}
use Rattle.gp_observer.specs.Knows.{IsKnown}
use Rattle.gp_observer.specs.Watches.{KnowsJudged, WatchersKnowUnits, WatchersKnowUnitsMidway, copies_said}
use Rattle.gp_observer.proofs.Watching.{Watching}
use Rattle.gp_observer.proofs.Sending.{Sent, frame_sends}
use Rattle.gp_observer.proofs.Owing.{none_left}
use Rattle.gp_observer.proofs.Hearing.{Goes, after_parts}
use Rattle.gp_observer.proofs.HearingRuns.{run_goes, opening_watched}
use Rattle.gp_observer.proofs.Midway.{goes_midway}

judged : (b : Bool) → not b ≡ true → b ≡ false
judged true h = absurd (false≢true h)
judged false h = refl

-- all units are known, where the first message was heard
abbrev KnowsFrom : Bool → Rows → FinSet serial_cmp → Watch → Type 0
KnowsFrom first rows disabled w = KnowsJudged rows disabled w × (first ≡ true → nat_lt (len w.asks) most_followed ≡ true → IsKnown rows disabled w.seen × ((n : ℕ) → is_judged w n ≡ true))

-- with nothing to be told the observer knows the units
module _ (settings : Settings) (first : Bool) (p : PortState) (w : Watch) (s : Observed) (is : Watching settings first p w s []) where
  knows_judged : KnowsJudged p.rows p.disabled w
  knows_judged =
      record {
        holder = λ n t j. let same = is.agrees.holder n (judged (contains w.unknown n) j) in (λ h. (is.known.holder n t).0 (sym same ∙ h), λ u. same ∙ (is.known.holder n t).1 u);
        alloc = λ a n j. let same = is.agrees.alloc a n (judged (contains w.unknown n) j) in (λ h. (is.known.alloc a n).0 (same.0 h), λ u. same.1 ((is.known.alloc a n).1 u));
        delay = λ n eqd j. let same = is.agrees.delay n (judged (contains w.unknown n) j) in (λ h. (is.known.delay n eqd).0 (sym same ∙ h), λ u. same ∙ (is.known.delay n eqd).1 u);
        disabled_are = λ t h. sym (ap (λ d. contains d t) is.known.disabled_are) ∙ is.agrees.disabled t h;
      }

  knows_units : KnowsFrom first p.rows p.disabled w
  knows_units = (knows_judged, λ heard room. (subst (λ x. IsKnown p.rows p.disabled x) (sym (is.whole heard room).0) is.known, λ n. ap not ((is.whole heard room).1 n)))

-- all copies are heard
hears_owed : (settings : Settings) (first : Bool) (xs : List Down) (p : PortState) (w : Watch) (s : Observed) (ms : List Down) → p.owed ≡ xs → Watching settings first p w s ms → KnowsFrom first p.rows p.disabled (watch_after_all w (copies_said xs))
hears_owed settings first [] p w s ms none is = knows_units settings first p w s (subst (λ (ys : List Down). Watching settings first p w s ys) (none_left settings first p w s ms is none) is)
hears_owed settings first (x ∷ xs) p w s ms owed is =
    let sent : Sent settings first p w s ms = frame_sends settings first p w s ms is in
    let later = hears_owed settings first xs (state_begun p) sent.new sent.then sent.rest (ap (drop 1) owed) sent.watching in
    subst (λ (v : Watch). KnowsFrom first p.rows p.disabled (watch_after_all v (copies_said xs))) (sym sent.hears ∙ ap (λ (ys : List Down). watch_after_all w (down_said (first_of ys))) owed) later

-- and all that was said before
hears_all : (settings : Settings) (first : Bool) (w : Watch) (q : PortState) (said : List Heard) → Goes settings first w q said → KnowsFrom first q.rows q.disabled (watch_after_all w (said ++ copies_said q.owed))
hears_all settings first w q said goes =
    subst (λ (v : Watch). KnowsFrom first q.rows q.disabled v) (sym (after_parts w said (copies_said q.owed))) (hears_owed settings first q.owed q (watch_after_all w said) goes.then goes.rest refl goes.watching)

-- whatever may drift
abbrev equalized : PortConfig → Settings
equalized c = record { teqd = c.teqd; drift = 0 }

pub watchers_know : HearsOneThing → WatchersKnowUnits
watchers_know one c q es said run says =
    let knows = hears_all (equalized c) true (watch_begun false) q said (run_goes one (equalized c) true (opening_of c) q es said (watch_begun false) nothing_observed [] (sound_opening c) refl (opening_watched (equalized c) c) run says) in
    (knows.0, knows.1 refl)

pub watchers_know_midway : HearsOneThing → WatchersKnowUnitsMidway
watchers_know_midway one c p q es said reached run says =
    (hears_all (equalized c) false (watch_begun true) q said (goes_midway one c p q es said (equalized c) reached run says refl)).0
