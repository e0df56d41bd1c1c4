-- The same of a frame, which assigns and ranges nobody.
use Rattle.std.proofs.Common.{◌≡◌, ℕ, ◌==◌, Bool, true, false, List, [], ◌∷◌, Option, None, Some, ◌⊎◌, inl, inr, refl, ap, subst, arith}
use Rattle.std.specs.Prelude.{is_none, option_map}
use Rattle.std.proofs.lemmas.Bool.{false≢true}
use Rattle.gp_volley.specs.Copies.{first_of}
use Rattle.gp_ploam.specs.declared.message.Serial.{Serial}
use Rattle.gp_ploam.specs.declared.message.Down.{Down}
use Rattle.gp_ranging.specs.declared.grant.Grant.{Grant}
use Rattle.gp_ranging.specs.declared.grant.Grant.TheVariants.{Search, Range, Poll}
use Rattle.gp_ranging.specs.Window.{WindowState, fresh_window}
use Rattle.gp_common.specs.declared.common.Common.{Common}
use Rattle.gp_common.specs.declared.decision.Decision.{Decision}
use Rattle.gp_common.specs.declared.decision.Decision.TheVariants.{Nothing, Overhead, Ask}
use Rattle.gp_alarms.specs.declared.alarm.AlarmKind.{AlarmKind}
use Rattle.gp_alarms.specs.declared.poll.Outcome as poll
use Rattle.gp_unit.specs.declared.row.Row.{Row}
use Rattle.gp_unit.specs.Rows.{row_unranged, alarm_polled}
use Rattle.gp_machine.specs.State.{PortState}
use Rattle.gp_machine.specs.Changes.{Change, window_counted_down, state_after, owed_by}
use Rattle.gp_machine.specs.Responses.{Response, MayPick, changes_with}
use Rattle.gp_machine.specs.Closes.{unranged_response, unpolled_response, poll_ended, close_response, asked_unit}
use Rattle.gp_machine.specs.Frame.{state_begun, decided_response, decision_after, opened_response, frame_response}
use Rattle.gp_machine.proofs.Walks.{by_test}
use Rattle.gp_observer.specs.Observer.{Observed}
use Rattle.gp_observer.proofs.Asking.{assigns}
use Rattle.gp_observer.proofs.Answering.{Unmoved, AreOwed}
use Rattle.gp_observer.proofs.Causing.{IsRangingWindow, Causes, grant_of, no_grant}

pub nothing_owed : (ms : List Down) → is_none (first_of ms) ≡ true → ms ≡ []
nothing_owed [] h = refl
nothing_owed (m ∷ ms) h = absurd (false≢true h)

counted_down : (o : Option WindowState) (n : ℕ) → IsRangingWindow (option_map window_counted_down o) n → IsRangingWindow o n
counted_down None n h = h
counted_down (Some w) n h = h

-- nobody asks
abbrev pub nobody_asks : Serial → Bool
nobody_asks t = false

-- no delay is measured
abbrev pub NoneMeasured : ℕ → ℕ → Type 0
NoneMeasured n eqd = ⊥

module _ (p : PortState) (ranging next : Option ℕ) (seen : Observed) where
  abbrev q : PortState
  q = state_begun p

  abbrev IsCaused : Response → Type 0
  IsCaused d = (k : ℕ) → MayPick q d k → Causes p q NoneMeasured nobody_asks seen (grant_of d) (changes_with d k)

  -- nothing is granted
  ticked : (cs : List Change) → ((t : Serial) → assigns t (owed_by cs) ≡ 0) → AreOwed NoneMeasured seen (owed_by cs)
      → ((n : ℕ) → IsRangingWindow (state_after q cs).window n → ((p.owed ≡ []) × (owed_by cs ≡ [])) ⊎ (IsRangingWindow p.window n × Unmoved seen n (owed_by cs))) → Causes p q NoneMeasured nobody_asks seen None cs
  ticked cs none owed leaves = record { few = λ t. let e = none t in omega arith; owed = owed; leaves = leaves; grants = λ g e. absurd (no_grant g e) }

  -- a window opens with nothing owed
  decided : p.owed ≡ [] → p.window ≡ None → (d : Common × Decision) → IsCaused (decided_response p d)
  decided idle closed (c, Nothing) = λ k may. ticked _ (λ t. refl) tt (λ n asks. absurd (subst (λ (o : Option WindowState). IsRangingWindow o n) closed asks))
  decided idle closed (c, Overhead) = λ k may. ticked _ (λ t. refl) (tt, tt) (λ n asks. absurd (subst (λ (o : Option WindowState). IsRangingWindow o n) closed asks))
  decided idle closed (c, Ask g) = λ k may. record { few = λ t. omega arith; owed = tt; leaves = λ n asks. inl (idle, refl); grants = λ h e. (idle, refl, ap (λ x. Some (fresh_window x)) (one_grant h e), refl) }
    where
      one_grant : (h : Grant) → Some g ≡ Some h → g ≡ h
      one_grant h e = cc

  unranged : (s : Serial) (row : Row) (heard : Bool) → (o : Option Row) → IsCaused (unranged_response s row heard o)
  unranged s row heard None = λ k may. ticked _ (λ t. refl) (tt, tt) (λ n asks. absurd asks)
  unranged s row heard (Some again) = λ k may. ticked _ (λ t. refl) tt (λ n asks. absurd asks)

  unpolled : (s : Serial) (row : Row) (ended : poll.Outcome) → (o : Option AlarmKind) → IsCaused (unpolled_response s row ended o)
  unpolled s row ended None = λ k may. ticked _ (λ t. refl) tt (λ n asks. absurd asks)
  unpolled s row ended (Some kind) = λ k may. ticked _ (λ t. refl) (tt, tt) (λ n asks. absurd asks)

  closes : (heard : Bool) (g : Grant) (o : Option (Serial × Row)) → IsCaused (close_response heard g o)
  closes heard Search o = λ k may. ticked _ (λ t. refl) tt (λ n asks. absurd asks)
  closes heard (Range n) None = λ k may. ticked _ (λ t. refl) tt (λ n asks. absurd asks)
  closes heard (Poll n) None = λ k may. ticked _ (λ t. refl) tt (λ n asks. absurd asks)
  closes heard (Range n) (Some (s, row)) = unranged s row heard (row_unranged row heard row.phase)
  closes heard (Poll n) (Some (s, row)) = unpolled s row (poll_ended heard) (alarm_polled row (poll_ended heard))

  by_window : (o : Option WindowState) → p.window ≡ o → IsCaused (opened_response p ranging next o)
  by_window None closed =
      by_test IsCaused (is_none (first_of p.owed)) _ _ (λ idle. decided (nothing_owed p.owed idle) closed (decision_after p ranging next))
      (λ busy k may. ticked _ (λ t. refl) tt (λ n asks. absurd (subst (λ (o : Option WindowState). IsRangingWindow o n) closed asks)))
  by_window (Some w) at =
      by_test IsCaused (w.left == 1) _ _ (λ last. closes w.seen w.grant (asked_unit p w.grant))
      (λ more k may. ticked _ (λ t. refl) tt (λ n asks. inr (counted_down p.window n asks, tt)))

  pub caused_frame : IsCaused (frame_response p ranging next)
  caused_frame = by_window p.window refl
