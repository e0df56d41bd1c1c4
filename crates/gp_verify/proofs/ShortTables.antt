-- What each response of the tables says has a short text: a row that is shown, and the serial number of an alarm.
use Rattle.std.proofs.Common.{◌≡◌, ℕ, ◌==◌, ◌||◌, Bool, true, false, length, [], Option, None, Some, refl, sym, subst}
use Rattle.std.specs.Prelude.{is_none}
use Rattle.std.specs.FinMap.{get}
use Rattle.std.specs.FinSet.{contains}
use Rattle.std.proofs.lemmas.List.Elements.{All-contains}
use Rattle.gp_volley.specs.Copies.{first_of}
use Rattle.gp_ploam.specs.declared.message.Serial.{Serial}
use Rattle.gp_ploam.specs.declared.message.Down.{Down}
use Rattle.gp_ploam.specs.declared.message.Up.{Up}
use Rattle.gp_ploam.specs.declared.message.Up.TheVariants.{SerialNumber, DyingGasp, Acknowledge}
use Rattle.gp_ploam.specs.Serials.{same_serial, is_among}
use Rattle.gp_ploam.specs.Up.{octet1_of}
use Rattle.gp_ranging.specs.declared.grant.Grant.{Grant}
use Rattle.gp_ranging.specs.declared.grant.Grant.TheVariants.{Search, Range, Poll}
use Rattle.gp_ranging.specs.Window.{WindowState}
use Rattle.gp_ranging.specs.Delay.{equalization_delay}
use Rattle.gp_common.specs.declared.common.Common.{Common}
use Rattle.gp_common.specs.declared.decision.Decision.{Decision}
use Rattle.gp_common.specs.declared.decision.Decision.TheVariants.{Nothing, Overhead, Ask}
use Rattle.gp_alarms.specs.declared.alarm.Alarm.{Alarm}
use Rattle.gp_alarms.specs.declared.alarm.AlarmKind.{AlarmKind}
use Rattle.gp_alarms.specs.declared.alarm.AlarmKind.TheVariants.{Df}
use Rattle.gp_alarms.specs.declared.poll.Outcome as poll
use Rattle.gp_alarms.specs.declared.poll.Outcome.TheVariants as outcomes
use Rattle.gp_unit.specs.declared.row.Phase.{Phase}
use Rattle.gp_unit.specs.declared.row.Phase.TheVariants.{Ranging, Operating}
use Rattle.gp_unit.specs.declared.row.Row.{Row}
use Rattle.gp_unit.specs.Rows.{row_unranged, was_seen, alarm_polled}
use Rattle.gp_machine.specs.declared.event.Command.{Command}
use Rattle.gp_machine.specs.declared.event.Command.TheVariants as command
use Rattle.gp_machine.specs.declared.event.Event.{Event}
use Rattle.gp_machine.specs.declared.event.Event.TheVariants as event
use Rattle.gp_machine.specs.declared.refusal.Refusal.{Refusal}
use Rattle.gp_machine.specs.declared.refusal.Refusal.TheVariants.{Stray, Garbled, WrongWindow}
use Rattle.gp_machine.specs.declared.reply.Reply.TheVariants.{DisabledSeen}
use Rattle.gp_machine.specs.State.{PortState, HasRow, unit_with}
use Rattle.gp_machine.specs.Sound.{IsSound}
use Rattle.gp_machine.specs.Responses.{Response, Responds, GivesOnu, GivesAlloc, answer_with, alarms, busy_causes}
use Rattle.gp_machine.specs.SearchWindow.{refuses_burst, if_room, newcomer_causes, search_causes, owes_assign, newcomer_response, again_response, active_response, enabled_response, search_response}
use Rattle.gp_machine.specs.RangeWindow.{stranger_causes, measured_response, ranging_response}
use Rattle.gp_machine.specs.PollWindow.{alive_response, acknowledged_response, operating_response}
use Rattle.gp_machine.specs.Burst.{directed_response, message_response, heard_response, windowed_response}
use Rattle.gp_machine.specs.Closes.{suf_alarm, unranged_response, unpolled_response, poll_ended, close_response, asked_unit}
use Rattle.gp_machine.specs.Commands.{refuses, searching_causes, alloc_causes, dealloc_causes, popup_causes, alloc_response, dealloc_response, deactivate_response, disable_response, enable_response, popup_response, command_response}
use Rattle.gp_machine.specs.Frame.{decided_response, decision_after, opened_response}
use Rattle.gp_machine.specs.Step.{IsResponse}
use Rattle.gp_machine.proofs.SerialLists.{admitted_contains}
use Rattle.gp_machine.proofs.Units.{found}
use Rattle.gp_machine.proofs.Walks.{by_test, not_false, by_causes, by_unit, by_active}
use Rattle.gp_laws.specs.Messages.{IsTypedConfig}
use Rattle.gp_lines.specs.Short.{HasShortReply}

-- the alarm's serial number has eight octets
abbrev pub HasShortAlarm : Option Alarm → Type 0
HasShortAlarm None = Unit {0}
HasShortAlarm (Some alarm) = length alarm.serial.0 ≡ 8

abbrev pub IsShort : Response → Type 0
IsShort (Responds reply grant alarm changes) = HasShortReply reply × HasShortAlarm alarm
IsShort (GivesOnu serial) = Unit {0}
IsShort (GivesAlloc serial row) = Unit {0}

-- so is what is answered then
pub answers_short : (sent : Option Down) (response : Response) (picked : ℕ) → IsShort response
    → HasShortReply (answer_with sent response picked).reply × HasShortAlarm (answer_with sent response picked).alarm
answers_short sent (Responds reply grant alarm changes) picked h = h
answers_short sent (GivesOnu serial) picked h = (tt, tt)
answers_short sent (GivesAlloc serial row) picked h = (tt, tt)

module _ (p : PortState) (sound : IsSound p) (typed : IsTypedConfig p.config) where
  eight : (s : Serial) → is_among s p.config.admitted ≡ true → length s.0 ≡ 8
  eight s h = All-contains (λ (x : Serial). length x.0 ≡ 8) p.config.admitted s typed.serials (admitted_contains s p.config.admitted h)

  -- an active unit is admitted
  of_row : (s : Serial) (row : Row) → HasRow p.rows s row → length s.0 ≡ 8
  of_row s row has = All-contains (λ (x : Serial). length x.0 ≡ 8) p.config.admitted s typed.serials (sound.units.each s row has).admitted

  -- ---- a search window

  refused_burst : (refusal : Refusal) → IsShort (refuses_burst refusal)
  refused_burst refusal = (tt, tt)

  with_room : (d : Response) → IsShort d → IsShort (if_room p d)
  with_room d done = by_causes IsShort refuses_burst (busy_causes p) d refused_burst (λ none. done)

  newcomer : (u : ℕ) (s : Serial) → IsShort (newcomer_response u p s)
  newcomer u s = by_causes IsShort refuses_burst (newcomer_causes u p) (GivesOnu s) refused_burst (λ causes. tt)

  again : (s : Serial) (onu : ℕ) → IsShort (again_response p s onu)
  again s onu = by_test IsShort (owes_assign p onu s) _ _ (λ told. (tt, tt)) (λ untold. with_room _ (tt, tt))

  active : (s : Serial) (onu : ℕ) (phase : Phase) → IsShort (active_response p s onu phase)
  active s onu (Ranging attempts seen) = again s onu
  active s onu (Operating eqd dark garbled) = with_room _ (tt, tt)

  enabled : (u : ℕ) (s : Serial) (o : Option Row) → IsShort (enabled_response u p s o)
  enabled u s None = newcomer u s
  enabled u s (Some row) = active s row.onu row.phase

  in_search : (u : ℕ) (message : Up) → IsShort (search_response u p message)
  in_search u (SerialNumber octet1 s random flags) =
      by_causes IsShort refuses_burst (search_causes p octet1 s) _ refused_burst
      (λ causes.
      by_test IsShort (contains p.disabled s) (alarms DisabledSeen Df s []) (enabled_response u p s (get p.rows s))
      (λ disabled. (tt, eight s (not_false (is_among s p.config.admitted) causes.1.0)))
      (λ free. enabled u s (get p.rows s)))
  in_search u message = refused_burst WrongWindow

  -- ---- a ranging window

  measured : (s : Serial) (row : Row) (o : Option ℕ) → IsShort (measured_response p s row o)
  measured s row None = (tt, tt)
  measured s row (Some eqd) = with_room _ (tt, tt)

  in_range : (at : ℕ) (s : Serial) (row : Row) (message : Up) → HasRow p.rows s row → IsShort (ranging_response p at s row message)
  in_range at s row (SerialNumber octet1 told random flags) has =
      by_causes IsShort refuses_burst (stranger_causes (same_serial told s)) (measured_response p s row (equalization_delay p.config.teqd at)) refused_burst
      (λ causes. measured s row (equalization_delay p.config.teqd at))
  in_range at s row (DyingGasp octet1) has = (tt, of_row s row has)
  in_range at s row message has = (tt, tt)

  -- ---- a poll window

  alive : (s : Serial) (row : Row) → HasRow p.rows s row → (o : Option AlarmKind) → IsShort (alive_response s row o)
  alive s row has None = (tt, tt)
  alive s row has (Some kind) = (tt, of_row s row has)

  acknowledged : (s : Serial) (row : Row) → HasRow p.rows s row → (o : Option ℕ) → IsShort (acknowledged_response s row o)
  acknowledged s row has None = alive s row has (alarm_polled row outcomes.Good)
  acknowledged s row has (Some a) = (tt, tt)

  in_poll : (s : Serial) (row : Row) (message : Up) → HasRow p.rows s row → IsShort (operating_response s row message)
  in_poll s row (Acknowledge octet1 id copy) has =
      by_test IsShort (id == 10) _ _ (λ alloc. acknowledged s row has row.pending) (λ other. alive s row has (alarm_polled row outcomes.Good))
  in_poll s row (DyingGasp octet1) has = (tt, of_row s row has)
  in_poll s row message has = alive s row has (alarm_polled row outcomes.Good)

  -- ---- any window

  directed : (response : Serial → Row → Up → Response) (n : ℕ) (message : Up) → ((s : Serial) (row : Row) → HasRow p.rows s row → IsShort (response s row message))
      → (o : Option (Serial × Row)) → unit_with p.rows n ≡ o → IsShort (directed_response response n message o)
  directed response n message each None is = refused_burst WrongWindow
  directed response n message each (Some (s, row)) is =
      by_causes IsShort refuses_burst (stranger_causes (octet1_of message == n)) (response s row message) refused_burst (λ causes. each s row (found p.rows (λ (r : Row). r.onu == n) s row is).0)

  by_grant : (u at : ℕ) (g : Grant) (message : Up) → IsShort (message_response u p at g message)
  by_grant u at Search message = in_search u message
  by_grant u at (Range n) message = directed (λ s row m. ranging_response p at s row m) n message (λ s row has. in_range at s row message has) (unit_with p.rows n) refl
  by_grant u at (Poll n) message = directed (λ s row m. operating_response s row m) n message (λ s row has. in_poll s row message has) (unit_with p.rows n) refl

  heard_in : (u at : ℕ) (g : Grant) (heard : Option Up) → IsShort (heard_response u p at g heard)
  heard_in u at g None = refused_burst Garbled
  heard_in u at g (Some message) = by_grant u at g message

  by_window : (u at : ℕ) (heard : Option Up) (o : Option WindowState) → IsShort (windowed_response u p at heard o)
  by_window u at heard None = refused_burst Stray
  by_window u at heard (Some w) = heard_in u at w.grant heard

  -- ---- commands

  refused : (refusal : Refusal) → IsShort (refuses refusal)
  refused refusal = (tt, tt)

  short_command : (c : Command) → IsShort (command_response p c)
  short_command command.Search = by_causes IsShort refuses (searching_causes p) _ refused (λ causes. (tt, tt))
  short_command (command.Alloc s) =
      by_active IsShort p s (λ (row : Row). alloc_response p s row) refused (λ row has. by_causes IsShort refuses (alloc_causes p row) (GivesAlloc s row) refused (λ causes. tt))
  short_command (command.Dealloc s a) =
      by_active IsShort p s (λ (row : Row). dealloc_response p s a row) refused (λ row has. by_causes IsShort refuses (dealloc_causes p row a) _ refused (λ causes. (tt, tt)))
  short_command (command.Deactivate s) =
      by_active IsShort p s (λ (row : Row). deactivate_response p s row) refused (λ row has. by_causes IsShort refuses (busy_causes p) _ refused (λ causes. (tt, tt)))
  short_command (command.Disable s) =
      by_unit IsShort p s (λ (o : Option Row). disable_response p s o) refused (λ admitted o is. by_causes IsShort refuses (busy_causes p) _ refused (λ causes. (tt, tt)))
  short_command (command.Enable s) =
      by_unit IsShort p s (λ (o : Option Row). enable_response p s o) refused (λ admitted o is. by_causes IsShort refuses (busy_causes p) _ refused (λ causes. (tt, tt)))
  short_command command.EnableAll = by_causes IsShort refuses (busy_causes p) _ refused (λ causes. (tt, tt))
  short_command (command.Popup s) =
      by_active IsShort p s (λ (row : Row). popup_response p row) refused (λ row has. by_causes IsShort refuses (popup_causes p row) _ refused (λ causes. (tt, tt)))
  short_command command.PopupAll = by_causes IsShort refuses (busy_causes p) _ refused (λ causes. (tt, tt))
  short_command (command.Show s) = by_active IsShort p s _ refused (λ row has. ((sound.units.each s row has).fits.few, tt))

  -- ---- frames

  decided : (d : Common × Decision) → IsShort (decided_response p d)
  decided (c, Nothing) = (tt, tt)
  decided (c, Overhead) = (tt, tt)
  decided (c, Ask g) = (tt, tt)

  lost : (s : Serial) (row : Row) (seen : Bool) → HasRow p.rows s row → HasShortAlarm (suf_alarm seen s)
  lost s row true has = of_row s row has
  lost s row false has = tt

  unranged : (s : Serial) (row : Row) (heard : Bool) → HasRow p.rows s row → (o : Option Row) → IsShort (unranged_response s row heard o)
  unranged s row heard has None = (tt, lost s row (was_seen row.phase || heard) has)
  unranged s row heard has (Some again_row) = (tt, tt)

  unpolled : (s : Serial) (row : Row) (ended : poll.Outcome) → HasRow p.rows s row → (o : Option AlarmKind) → IsShort (unpolled_response s row ended o)
  unpolled s row ended has None = (tt, tt)
  unpolled s row ended has (Some kind) = (tt, of_row s row has)

  closes : (heard : Bool) (g : Grant) (o : Option (Serial × Row)) → asked_unit p g ≡ o → IsShort (close_response heard g o)
  closes heard Search o is = (tt, tt)
  closes heard (Range n) None is = (tt, tt)
  closes heard (Poll n) None is = (tt, tt)
  closes heard (Range n) (Some (s, row)) is = unranged s row heard (found p.rows (λ (r : Row). r.onu == n) s row is).0 (row_unranged row heard row.phase)
  closes heard (Poll n) (Some (s, row)) is = unpolled s row (poll_ended heard) (found p.rows (λ (r : Row). r.onu == n) s row is).0 (alarm_polled row (poll_ended heard))

  opened : (ranging next : Option ℕ) (o : Option WindowState) → IsShort (opened_response p ranging next o)
  opened ranging next None = by_test IsShort (is_none (first_of p.owed)) _ _ (λ idle. decided (decision_after p ranging next)) (λ busy. (tt, tt))
  opened ranging next (Some w) = by_test IsShort (w.left == 1) _ _ (λ last. closes w.seen w.grant (asked_unit p w.grant) refl) (λ more. (tt, tt))

  -- what the tables say of an event
  pub response_short : (u : ℕ) (e : Event) (d : Response) → IsResponse u p e d → IsShort d
  response_short u event.Frame d said = subst (λ (x : Response). IsShort x) (sym said.4) (opened said.0 said.1 p.window)
  response_short u (event.Burst at bytes) d said = subst (λ (x : Response). IsShort x) (sym said.2) (by_window u at said.0 p.window)
  response_short u (event.Command c) d said = subst (λ (x : Response). IsShort x) (sym said) (short_command c)
