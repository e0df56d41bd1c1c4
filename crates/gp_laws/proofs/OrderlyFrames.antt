-- The same of the responses to a frame; and of each step.
use Rattle.std.proofs.Common.{◌≡◌, ℕ, ◌+◌, ◌==◌, Bool, true, false, cond, ◌∷◌, Option, None, Some, refl, sym, ap, subst, ◌||◌}
use Rattle.std.specs.Prelude.{is_none}
use Rattle.gp_volley.specs.Copies.{first_of}
use Rattle.gp_ploam.specs.declared.message.Serial.{Serial}
use Rattle.gp_ranging.specs.declared.grant.Grant.{Grant}
use Rattle.gp_ranging.specs.declared.grant.Grant.TheVariants.{Search, Range, Poll}
use Rattle.gp_ranging.specs.Window.{WindowState}
use Rattle.gp_common.specs.declared.common.Common.{Common}
use Rattle.gp_common.specs.declared.decision.Decision.{Decision}
use Rattle.gp_common.specs.declared.decision.Decision.TheVariants.{Nothing, Overhead, Ask}
use Rattle.gp_alarms.specs.declared.alarm.AlarmKind.{AlarmKind}
use Rattle.gp_alarms.specs.declared.poll.Outcome as poll
use Rattle.gp_unit.specs.declared.row.Phase.{Phase}
use Rattle.gp_unit.specs.declared.row.Phase.TheVariants.{Ranging, Operating}
use Rattle.gp_unit.specs.declared.row.Row.{Row}
use Rattle.gp_unit.specs.Rows.{row_unranged, was_seen, alarm_polled}
use Rattle.gp_machine.specs.declared.event.Event.{Event}
use Rattle.gp_machine.specs.declared.event.Event.TheVariants as event
use Rattle.gp_machine.specs.State.{PortState, HasRow}
use Rattle.gp_machine.specs.Changes.{ClosesWindow}
use Rattle.gp_machine.specs.Responses.{Response, removal}
use Rattle.gp_machine.specs.Closes.{suf_alarm, unranged_response, unpolled_response, poll_ended, close_response, asked_unit}
use Rattle.gp_machine.specs.Frame.{state_begun, decided_response, decision_after, opened_response, frame_response}
use Rattle.gp_machine.specs.Step.{IsResponse, state_at}
use Rattle.gp_machine.proofs.Units.{one_row, not_none, found}
use Rattle.gp_machine.proofs.Walks.{by_test}
use Rattle.gp_laws.proofs.Orderly.{IsOrderly, RemovesLost, orderly, gone, deactivated, orderly_burst, orderly_command}

-- a unit that ranges again keeps its ONU-ID
unranged_onu : (row again : Row) (heard : Bool) (phase : Phase) → row_unranged row heard phase ≡ Some again → again.onu ≡ row.onu
unranged_onu row again heard (Operating eqd dark garbled) is = ap (λ (r : Row). r.onu) (sym (one_row row again is))
unranged_onu row again heard (Ranging attempts seen) is = by_count (attempts == 1) is
  where
    by_count : (b : Bool) → cond b None (Some (record row { phase = Ranging (attempts + 1) (seen || heard) })) ≡ Some again → again.onu ≡ row.onu
    by_count true e = absurd (not_none again e)
    by_count false e = ap (λ (r : Row). r.onu) (sym (one_row _ again e))

module _ (p : PortState) (ranging next : Option ℕ) where
  abbrev q : PortState
  q = state_begun p

  decided : (d : Common × Decision) → IsOrderly q (decided_response p d)
  decided (c, Nothing) = orderly q _ _ _ _ tt (tt, tt) tt
  decided (c, Overhead) = orderly q _ _ _ _ (refl, tt) (tt, (tt, (tt, tt))) tt
  decided (c, Ask g) = orderly q _ _ _ _ tt (tt, (tt, tt)) tt

  lost : (s : Serial) (row : Row) (seen : Bool) → HasRow p.rows s row → RemovesLost q (suf_alarm seen s) (ClosesWindow ∷ removal s row.onu)
  lost s row true has = λ is. ((row, has), gone p.rows s)
  lost s row false has = tt

  unranged : (s : Serial) (row : Row) (heard : Bool) → HasRow p.rows s row → (o : Option Row) → row_unranged row heard row.phase ≡ o → IsOrderly q (unranged_response s row heard o)
  unranged s row heard has None is =
      orderly q _ _ _ _ (tt, tt) (tt, ((row, has, refl, deactivated s row.onu), (tt, tt))) (lost s row (was_seen row.phase || heard) has)
  unranged s row heard has (Some again) is = orderly q _ _ _ _ tt (tt, ((row, has, unranged_onu row again heard row.phase is), tt)) tt

  unpolled : (s : Serial) (row : Row) (ended : poll.Outcome) → HasRow p.rows s row → (o : Option AlarmKind) → IsOrderly q (unpolled_response s row ended o)
  unpolled s row ended has None = orderly q _ _ _ _ tt (tt, ((row, has, refl), tt)) tt
  unpolled s row ended has (Some kind) = orderly q _ _ _ _ (tt, tt) (tt, ((row, has, refl, deactivated s row.onu), (tt, tt))) (λ is. ((row, has), gone p.rows s))

  closes : (heard : Bool) (g : Grant) (o : Option (Serial × Row)) → asked_unit p g ≡ o → IsOrderly q (close_response heard g o)
  closes heard Search o is = orderly q _ _ _ _ tt (tt, tt) tt
  closes heard (Range n) None is = orderly q _ _ _ _ tt (tt, tt) tt
  closes heard (Poll n) None is = orderly q _ _ _ _ tt (tt, tt) tt
  closes heard (Range n) (Some (s, row)) is = unranged s row heard (found p.rows (λ (r : Row). r.onu == n) s row is).0 (row_unranged row heard row.phase) refl
  closes heard (Poll n) (Some (s, row)) is = unpolled s row (poll_ended heard) (found p.rows (λ (r : Row). r.onu == n) s row is).0 (alarm_polled row (poll_ended heard))

  by_window : (o : Option WindowState) → IsOrderly q (opened_response p ranging next o)
  by_window None = by_test (IsOrderly q) (is_none (first_of p.owed)) _ _ (λ idle. decided (decision_after p ranging next)) (λ busy. orderly q _ _ _ _ tt tt tt)
  by_window (Some w) =
      by_test (IsOrderly q) (w.left == 1) _ _ (λ last. closes w.seen w.grant (asked_unit p w.grant) refl) (λ more. orderly q _ _ _ _ tt (tt, tt) tt)

  pub orderly_frame : IsOrderly q (frame_response p ranging next)
  orderly_frame = by_window p.window

pub orderly_step : (u : ℕ) (p : PortState) (e : Event) (d : Response) → IsResponse u p e d → IsOrderly (state_at p e) d
orderly_step u p event.Frame d said = subst (λ (x : Response). IsOrderly (state_begun p) x) (sym said.4) (orderly_frame p said.0 said.1)
orderly_step u p (event.Burst at bytes) d said = subst (λ (x : Response). IsOrderly p x) (sym said.2) (orderly_burst p u at said.0)
orderly_step u p (event.Command c) d said = subst (λ (x : Response). IsOrderly p x) (sym said) (orderly_command p c)
