-- What each response of the tables does with ONU-IDs, what it says in messages, and whom it removes with an alarm.
use Rattle.std.proofs.Common.{◌≡◌, ℕ, ◌-◌, ◌≤◌, ◌==◌, Bool, true, false, cond, List, [], ◌∷◌, Option, None, Some, ◌⊎◌, inl, inr, refl, sym, ◌∙◌, arith}
use Rattle.std.specs.Prelude.{nat_lt}
use Rattle.std.specs.FinMap.{get, remove}
use Rattle.std.specs.FinSet.{contains}
use Rattle.std.proofs.lemmas.Bool.{false≢true}
use Rattle.gp_ploam.specs.declared.message.Serial.{Serial}
use Rattle.gp_ploam.specs.declared.message.Down.{Down}
use Rattle.gp_ploam.specs.declared.message.Down.TheVariants as down
use Rattle.gp_ploam.specs.declared.message.Up.{Up}
use Rattle.gp_ploam.specs.declared.message.Up.TheVariants.{SerialNumber, DyingGasp, Acknowledge}
use Rattle.gp_ploam.specs.Serials.{same_serial, is_among}
use Rattle.gp_ploam.specs.Up.{octet1_of}
use Rattle.gp_ploam.proofs.Serials.{same_serial-itself}
use Rattle.gp_ranging.specs.declared.grant.Grant.{Grant}
use Rattle.gp_ranging.specs.declared.grant.Grant.TheVariants.{Search, Range, Poll}
use Rattle.gp_ranging.specs.Window.{WindowState}
use Rattle.gp_ranging.specs.Delay.{equalization_delay}
use Rattle.gp_alarms.specs.declared.alarm.Alarm.{Alarm}
use Rattle.gp_alarms.specs.declared.alarm.AlarmKind.{AlarmKind}
use Rattle.gp_alarms.specs.declared.alarm.AlarmKind.TheVariants.{Df}
use Rattle.gp_alarms.specs.declared.poll.Outcome.TheVariants as poll
use Rattle.gp_unit.specs.declared.row.Phase.{Phase}
use Rattle.gp_unit.specs.declared.row.Phase.TheVariants.{Ranging, Operating}
use Rattle.gp_unit.specs.declared.row.Row.{Row}
use Rattle.gp_unit.specs.Rows.{has_alloc, holds_alloc, new_row, alarm_polled}
use Rattle.gp_unit.proofs.Kept.{has_held}
use Rattle.gp_machine.specs.declared.event.Command.{Command}
use Rattle.gp_machine.specs.declared.event.Command.TheVariants as command
use Rattle.gp_machine.specs.declared.refusal.Refusal.{Refusal}
use Rattle.gp_machine.specs.declared.refusal.Refusal.TheVariants.{Stray, Garbled, WrongWindow}
use Rattle.gp_machine.specs.declared.reply.Reply.{Reply}
use Rattle.gp_machine.specs.declared.reply.Reply.TheVariants.{DisabledSeen}
use Rattle.gp_machine.specs.State.{PortState, Rows, HasRow, unit_with}
use Rattle.gp_machine.specs.Changes.{Change, Owes, AddsUnit, SetsRow, RemovesUnit, state_after_change, state_after, owed_by}
use Rattle.gp_machine.specs.Responses.{Response, Responds, GivesOnu, GivesAlloc, MayPick, changes_with, alarms, busy_causes}
use Rattle.gp_machine.specs.SearchWindow.{refuses_burst, if_room, newcomer_causes, search_causes, owes_assign, newcomer_response, again_response, active_response, enabled_response, admitted_response, search_response}
use Rattle.gp_machine.specs.RangeWindow.{stranger_causes, measured_response, ranging_response}
use Rattle.gp_machine.specs.PollWindow.{alive_response, acknowledged_response, operating_response}
use Rattle.gp_machine.specs.Burst.{directed_response, message_response, heard_response, windowed_response, burst_response}
use Rattle.gp_machine.specs.Commands.{refuses, searching_causes, alloc_causes, dealloc_causes, popup_causes, alloc_response, dealloc_response, deactivate_response, disable_response, enable_response, popup_response, command_response}
use Rattle.gp_machine.proofs.Units.{found, has_it, has_left}
use Rattle.gp_machine.proofs.Walks.{by_test, not_false, by_causes, by_unit, by_active}
use Rattle.gp_laws.specs.Numbers.{HasOnuId}
use Rattle.gp_laws.specs.Removals.{TakesOnuId}
use Rattle.gp_laws.specs.Alarms.{loses_unit}

-- ---- what is true of a response

-- what a message may say at a port
abbrev pub IsFounded : PortState → Down → Type 0
IsFounded p (down.UpstreamOverhead burst) = burst ≡ p.config.overhead
IsFounded p (down.AssignOnu n s) = is_among s p.config.admitted ≡ true
IsFounded p (down.RangingTime n eqd) = eqd ≤ p.config.teqd
IsFounded p (down.Deactivate n) = Unit {0}
IsFounded p (down.DisableSerial s) = is_among s p.config.admitted ≡ true
IsFounded p (down.EnableSerial s) = is_among s p.config.admitted ≡ true
IsFounded p down.EnableAll = Unit {0}
IsFounded p (down.AssignAlloc n a keep) = (a ≤ p.config.alloc_last) ⊎ ((s : Serial) × (row : Row) × HasRow p.rows s row × (has_alloc a row ≡ true))
IsFounded p down.NoMessage = Unit {0}
IsFounded p (down.Popup n) = Unit {0}
IsFounded p (down.Other id octet1 body) = ⊥

abbrev pub AreFounded : PortState → List Down → Type 0
AreFounded p [] = Unit {0}
AreFounded p (m ∷ ms) = IsFounded p m × AreFounded p ms

-- an Assign_ONU-ID is owed last, to a unit that has the ONU-ID
abbrev pub IsToldLast : PortState → Down → List Change → Type 0
IsToldLast p (down.AssignOnu n s) later = HasOnuId p.rows s n × (later ≡ [])
IsToldLast p m later = Unit {0}

-- what a change does with ONU-IDs, where these changes come after it
abbrev pub KeepsOnuId : PortState → Change → List Change → Type 0
KeepsOnuId p (Owes m) later = IsToldLast p m later
KeepsOnuId p (AddsUnit s row) later = (get p.rows s ≡ None) × (later ≡ Owes (down.AssignOnu row.onu s) ∷ [])
KeepsOnuId p (SetsRow s row) later = (old : Row) × HasRow p.rows s old × (row.onu ≡ old.onu)
KeepsOnuId p (RemovesUnit s n) later = (row : Row) × HasRow p.rows s row × (row.onu ≡ n) × TakesOnuId (owed_by later) s n
KeepsOnuId p change later = Unit {0}

abbrev pub KeepOnuIds : PortState → List Change → Type 0
KeepOnuIds p [] = Unit {0}
KeepOnuIds p (change ∷ changes) = KeepsOnuId p change changes × KeepOnuIds (state_after_change p change) changes

-- with an alarm that loses a unit the unit is removed
abbrev pub RemovesLost : PortState → Option Alarm → List Change → Type 0
RemovesLost p None changes = Unit {0}
RemovesLost p (Some alarm) changes = loses_unit alarm.kind ≡ true → ((row : Row) × HasRow p.rows alarm.serial row) × (get (state_after p changes).rows alarm.serial ≡ None)

abbrev pub RemovesLostUnit : PortState → Response → Type 0
RemovesLostUnit p (Responds reply grant alarm changes) = RemovesLost p alarm changes
RemovesLostUnit p (GivesOnu s) = Unit {0}
RemovesLostUnit p (GivesAlloc s row) = Unit {0}

pub record IsOrderly (p : PortState) (d : Response) : Type 0 where
  pub founded : (n : ℕ) → MayPick p d n → AreFounded p (owed_by (changes_with d n))
  pub kept : (n : ℕ) → MayPick p d n → KeepOnuIds p (changes_with d n)
  pub removes : RemovesLostUnit p d

pub orderly : (p : PortState) (reply : Reply) (grant : Option Grant) (alarm : Option Alarm) (changes : List Change) → AreFounded p (owed_by changes) → KeepOnuIds p changes → RemovesLost p alarm changes
    → IsOrderly p (Responds reply grant alarm changes)
orderly p reply grant alarm changes founded kept removes = record { founded = λ n picked. founded; kept = λ n picked. kept; removes = removes }

-- ---- a removal

pub gone : (rows : Rows) (s : Serial) → get (remove rows s) s ≡ None
gone rows s = by_row (get (remove rows s) s) refl
  where
    by_row : (o : Option Row) → get (remove rows s) s ≡ o → get (remove rows s) s ≡ None
    by_row None is = is
    by_row (Some row) is = absurd (false≢true (sym (has_left rows s s row is).0 ∙ same_serial-itself s))

pub deactivated : (s : Serial) (n : ℕ) → TakesOnuId (down.Deactivate n ∷ []) s n
deactivated s n = inl (0, omega arith, refl)

disabled : (s : Serial) (n : ℕ) → TakesOnuId (down.DisableSerial s ∷ []) s n
disabled s n = inr (0, omega arith, refl)

module _ (p : PortState) where
  -- ---- a search window

  refused_burst : (refusal : Refusal) → IsOrderly p (refuses_burst refusal)
  refused_burst refusal = orderly p _ _ _ _ tt (tt, tt) tt

  with_room : (d : Response) → IsOrderly p d → IsOrderly p (if_room p d)
  with_room d done = by_causes (IsOrderly p) refuses_burst (busy_causes p) d refused_burst (λ none. done)

  newcomer : (u : ℕ) (s : Serial) → is_among s p.config.admitted ≡ true → get p.rows s ≡ None → IsOrderly p (newcomer_response u p s)
  newcomer u s admitted none =
      by_causes (IsOrderly p) refuses_burst (newcomer_causes u p) (GivesOnu s) refused_burst
      (λ causes. record { founded = λ n free. (admitted, tt); kept = λ n free. ((none, refl), (((new_row n, has_it p.rows s (new_row n), refl), refl), tt)); removes = tt })

  again : (s : Serial) (row : Row) → is_among s p.config.admitted ≡ true → HasRow p.rows s row → IsOrderly p (again_response p s row.onu)
  again s row admitted has =
      by_test (IsOrderly p) (owes_assign p row.onu s) _ _ (λ told. orderly p _ _ _ _ tt tt tt)
      (λ untold. with_room _ (orderly p _ _ _ _ (admitted, tt) ((row, has, refl), (((new_row row.onu, has_it p.rows s (new_row row.onu), refl), refl), tt)) tt))

  active : (s : Serial) (row : Row) → is_among s p.config.admitted ≡ true → HasRow p.rows s row → (phase : Phase) → IsOrderly p (active_response p s row.onu phase)
  active s row admitted has (Ranging attempts seen) = again s row admitted has
  active s row admitted has (Operating eqd dark garbled) = with_room _ (orderly p _ _ _ _ (tt, tt) ((row, has, refl, deactivated s row.onu), (tt, tt)) tt)

  enabled : (u : ℕ) (s : Serial) → is_among s p.config.admitted ≡ true → (o : Option Row) → get p.rows s ≡ o → IsOrderly p (enabled_response u p s o)
  enabled u s admitted None is = newcomer u s admitted is
  enabled u s admitted (Some row) is = active s row admitted is row.phase

  in_search : (u : ℕ) (message : Up) → IsOrderly p (search_response u p message)
  in_search u (SerialNumber octet1 s random flags) =
      by_causes (IsOrderly p) refuses_burst (search_causes p octet1 s) (admitted_response u p s) refused_burst
      (λ causes.
      by_test (IsOrderly p) (contains p.disabled s) (alarms DisabledSeen Df s []) (enabled_response u p s (get p.rows s)) (λ disabled. orderly p _ _ _ _ tt tt (λ lost. absurd (false≢true lost)))
      (λ free. enabled u s (not_false (is_among s p.config.admitted) causes.1.0) (get p.rows s) refl))
  in_search u message = refused_burst WrongWindow

  -- ---- a ranging window

  delay_left : (teqd at eqd : ℕ) → equalization_delay teqd at ≡ Some eqd → eqd ≤ teqd
  delay_left teqd at eqd h = by_far (nat_lt teqd at) h
    where
      by_far : (b : Bool) → cond b None (Some (teqd - at)) ≡ Some eqd → eqd ≤ teqd
      by_far true e = absurd (none e)
        where
          none : ◌≡◌ {A = Option ℕ} None (Some eqd) → ⊥
          none e = cc
      by_far false e = let same : teqd - at ≡ eqd = cc in omega arith

  measured : (s : Serial) (row : Row) → HasRow p.rows s row → (o : Option ℕ) → ((eqd : ℕ) → o ≡ Some eqd → eqd ≤ p.config.teqd) → IsOrderly p (measured_response p s row o)
  measured s row has None low = orderly p _ _ _ _ tt (tt, tt) tt
  measured s row has (Some eqd) low = with_room _ (orderly p _ _ _ _ (low eqd refl, tt) (tt, ((row, has, refl), (tt, tt))) tt)

  in_range : (at : ℕ) (s : Serial) (row : Row) (message : Up) → HasRow p.rows s row → IsOrderly p (ranging_response p at s row message)
  in_range at s row (SerialNumber octet1 told random flags) has =
      by_causes (IsOrderly p) refuses_burst (stranger_causes (same_serial told s)) (measured_response p s row (equalization_delay p.config.teqd at)) refused_burst
      (λ causes. measured s row has (equalization_delay p.config.teqd at) (λ eqd is. delay_left p.config.teqd at eqd is))
  in_range at s row (DyingGasp octet1) has = orderly p _ _ _ _ tt (tt, tt) (λ lost. absurd (false≢true lost))
  in_range at s row message has = orderly p _ _ _ _ tt (tt, tt) tt

  -- ---- a poll window

  alive : (s : Serial) (row : Row) → HasRow p.rows s row → (o : Option AlarmKind) → IsOrderly p (alive_response s row o)
  alive s row has None = orderly p _ _ _ _ tt (tt, ((row, has, refl), tt)) tt
  alive s row has (Some kind) = orderly p _ _ _ _ (tt, tt) (tt, ((row, has, refl, deactivated s row.onu), (tt, tt))) (λ lost. ((row, has), gone p.rows s))

  acknowledged : (s : Serial) (row : Row) → HasRow p.rows s row → (o : Option ℕ) → IsOrderly p (acknowledged_response s row o)
  acknowledged s row has None = alive s row has (alarm_polled row poll.Good)
  acknowledged s row has (Some a) = orderly p _ _ _ _ tt (tt, ((row, has, refl), tt)) tt

  in_poll : (s : Serial) (row : Row) (message : Up) → HasRow p.rows s row → IsOrderly p (operating_response s row message)
  in_poll s row (Acknowledge octet1 id copy) has =
      by_test (IsOrderly p) (id == 10) _ _ (λ alloc. acknowledged s row has row.pending) (λ other. alive s row has (alarm_polled row poll.Good))
  in_poll s row (DyingGasp octet1) has = orderly p _ _ _ _ tt (tt, ((row, has, refl), tt)) (λ lost. absurd (false≢true lost))
  in_poll s row message has = alive s row has (alarm_polled row poll.Good)

  -- ---- any window

  directed : (response : Serial → Row → Up → Response) (n : ℕ) (message : Up) → ((s : Serial) (row : Row) → HasRow p.rows s row → IsOrderly p (response s row message))
      → (o : Option (Serial × Row)) → unit_with p.rows n ≡ o → IsOrderly p (directed_response response n message o)
  directed response n message each None is = refused_burst WrongWindow
  directed response n message each (Some (s, row)) is =
      by_causes (IsOrderly p) refuses_burst (stranger_causes (octet1_of message == n)) (response s row message) refused_burst (λ causes. each s row (found p.rows (λ (r : Row). r.onu == n) s row is).0)

  by_grant : (u at : ℕ) (g : Grant) (message : Up) → IsOrderly p (message_response u p at g message)
  by_grant u at Search message = in_search u message
  by_grant u at (Range n) message = directed (λ s row m. ranging_response p at s row m) n message (λ s row has. in_range at s row message has) (unit_with p.rows n) refl
  by_grant u at (Poll n) message = directed (λ s row m. operating_response s row m) n message (λ s row has. in_poll s row message has) (unit_with p.rows n) refl

  heard_in : (u at : ℕ) (g : Grant) (heard : Option Up) → IsOrderly p (heard_response u p at g heard)
  heard_in u at g None = refused_burst Garbled
  heard_in u at g (Some message) = by_grant u at g message

  by_window : (u at : ℕ) (heard : Option Up) (o : Option WindowState) → IsOrderly p (windowed_response u p at heard o)
  by_window u at heard None = refused_burst Stray
  by_window u at heard (Some w) = heard_in u at w.grant heard

  pub orderly_burst : (u at : ℕ) (heard : Option Up) → IsOrderly p (burst_response u p at heard)
  orderly_burst u at heard = by_window u at heard p.window

  -- ---- commands

  refused : (refusal : Refusal) → IsOrderly p (refuses refusal)
  refused refusal = orderly p _ _ _ _ tt tt tt

  alloc : (s : Serial) (row : Row) → HasRow p.rows s row → IsOrderly p (alloc_response p s row)
  alloc s row has =
      by_causes (IsOrderly p) refuses (alloc_causes p row) (GivesAlloc s row) refused
      (λ causes. record { founded = λ a free. (inl free.below, tt); kept = λ a free. ((row, has, refl), (tt, tt)); removes = tt })

  dealloc : (s : Serial) (a : ℕ) (row : Row) → HasRow p.rows s row → IsOrderly p (dealloc_response p s a row)
  dealloc s a row has =
      by_causes (IsOrderly p) refuses (dealloc_causes p row a) _ refused
      (λ causes. orderly p _ _ _ _ (inr (s, row, has, has_held row a (not_false (holds_alloc a row) causes.1.1.0)), tt) ((row, has, refl), (tt, tt)) tt)

  disable : (s : Serial) → is_among s p.config.admitted ≡ true → (o : Option Row) → get p.rows s ≡ o → IsOrderly p (disable_response p s o)
  disable s admitted None is = by_causes (IsOrderly p) refuses (busy_causes p) _ refused (λ causes. orderly p _ _ _ _ (admitted, tt) (tt, (tt, tt)) tt)
  disable s admitted (Some row) is =
      by_causes (IsOrderly p) refuses (busy_causes p) _ refused (λ causes. orderly p _ _ _ _ (admitted, tt) ((row, is, refl, disabled s row.onu), (tt, (tt, tt))) tt)

  pub orderly_command : (c : Command) → IsOrderly p (command_response p c)
  orderly_command command.Search = by_causes (IsOrderly p) refuses (searching_causes p) _ refused (λ causes. orderly p _ _ _ _ tt (tt, tt) tt)
  orderly_command (command.Alloc s) = by_active (IsOrderly p) p s (λ (row : Row). alloc_response p s row) refused (λ row has. alloc s row has)
  orderly_command (command.Dealloc s a) = by_active (IsOrderly p) p s (λ (row : Row). dealloc_response p s a row) refused (λ row has. dealloc s a row has)
  orderly_command (command.Deactivate s) =
      by_active (IsOrderly p) p s (λ (row : Row). deactivate_response p s row) refused
      (λ row has. by_causes (IsOrderly p) refuses (busy_causes p) _ refused (λ causes. orderly p _ _ _ _ (tt, tt) ((row, has, refl, deactivated s row.onu), (tt, tt)) tt))
  orderly_command (command.Disable s) = by_unit (IsOrderly p) p s (λ (o : Option Row). disable_response p s o) refused (λ admitted o is. disable s admitted o is)
  orderly_command (command.Enable s) =
      by_unit (IsOrderly p) p s (λ (o : Option Row). enable_response p s o) refused
      (λ admitted o is. by_causes (IsOrderly p) refuses (busy_causes p) _ refused (λ causes. orderly p _ _ _ _ (admitted, tt) (tt, (tt, tt)) tt))
  orderly_command command.EnableAll = by_causes (IsOrderly p) refuses (busy_causes p) _ refused (λ causes. orderly p _ _ _ _ (tt, tt) (tt, (tt, tt)) tt)
  orderly_command (command.Popup s) =
      by_active (IsOrderly p) p s (λ (row : Row). popup_response p row) refused
      (λ row has. by_causes (IsOrderly p) refuses (popup_causes p row) _ refused (λ causes. orderly p _ _ _ _ (tt, tt) (tt, tt) tt))
  orderly_command command.PopupAll = by_causes (IsOrderly p) refuses (busy_causes p) _ refused (λ causes. orderly p _ _ _ _ (tt, tt) (tt, (tt, tt)) tt)
  orderly_command (command.Show s) = by_active (IsOrderly p) p s _ refused (λ row has. orderly p _ _ _ _ tt tt tt)
