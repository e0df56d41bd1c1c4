-- What each response of the tables does with what is counted of units, by how it ends their poll windows.
use Rattle.std.proofs.Common.{◌≡◌, ℕ, ◌==◌, Bool, true, false, cond, List, Option, None, Some, ◌⊎◌, inl, inr, refl, sym, ap, subst, ◌∙◌, is_some, ◌||◌}
use Rattle.std.specs.Prelude.{is_none}
use Rattle.std.specs.FinMap.{get, insert, remove}
use Rattle.std.specs.FinSet.{contains}
use Rattle.std.proofs.lemmas.Bool.{cases_Bool, false≢true, eqb-true, eqb-false, eq-eqb}
use Rattle.gp_volley.specs.Copies.{first_of}
use Rattle.gp_ploam.specs.declared.message.Serial.{Serial}
use Rattle.gp_ploam.specs.declared.message.Down.{Down}
use Rattle.gp_ploam.specs.declared.message.Up.{Up}
use Rattle.gp_ploam.specs.declared.message.Up.TheVariants.{SerialNumber, DyingGasp, Acknowledge}
use Rattle.gp_ploam.specs.Serials.{same_serial}
use Rattle.gp_ploam.specs.Up.{octet1_of}
use Rattle.gp_ploam.proofs.Serials.{same_serial-itself}
use Rattle.gp_ranging.specs.declared.grant.Grant.{Grant}
use Rattle.gp_ranging.specs.declared.grant.Grant.TheVariants.{Search, Range, Poll}
use Rattle.gp_ranging.specs.Window.{WindowState}
use Rattle.gp_ranging.specs.Delay.{equalization_delay}
use Rattle.gp_common.specs.declared.common.Common.{Common}
use Rattle.gp_common.specs.declared.decision.Decision.{Decision}
use Rattle.gp_common.specs.declared.decision.Decision.TheVariants.{Nothing, Overhead, Ask}
use Rattle.gp_alarms.specs.declared.alarm.Alarm.{Alarm}
use Rattle.gp_alarms.specs.declared.alarm.AlarmKind.{AlarmKind}
use Rattle.gp_alarms.specs.declared.alarm.AlarmKind.TheVariants.{Los, Loam, Loa, Suf, Df, Dg}
use Rattle.gp_alarms.specs.declared.poll.Outcome.{Outcome}
use Rattle.gp_alarms.specs.declared.poll.Outcome.TheVariants.{Good, Gasped, Acked}
use Rattle.gp_unit.specs.declared.row.Phase.{Phase}
use Rattle.gp_unit.specs.declared.row.Phase.TheVariants.{Ranging, Operating}
use Rattle.gp_unit.specs.declared.row.Row.{Row}
use Rattle.gp_unit.specs.Rows.{is_ranging, new_row, row_unranged, row_measured, row_polled, alarm_polled, row_with_alloc, row_acknowledged, row_releasing, row_popped_up, was_seen}
use Rattle.gp_machine.specs.declared.event.Command.{Command}
use Rattle.gp_machine.specs.declared.event.Command.TheVariants as command
use Rattle.gp_machine.specs.declared.event.Event.{Event}
use Rattle.gp_machine.specs.declared.event.Event.TheVariants as event
use Rattle.gp_machine.specs.declared.refusal.Refusal.{Refusal}
use Rattle.gp_machine.specs.declared.refusal.Refusal.TheVariants.{Stray, WrongWindow}
use Rattle.gp_machine.specs.declared.refusal.Refusal.TheVariants as refusal
use Rattle.gp_machine.specs.declared.reply.Reply.{Reply}
use Rattle.gp_machine.specs.declared.reply.Reply.TheVariants as reply
use Rattle.gp_machine.specs.declared.reply.Reply.TheVariants.{Refused, Ticked, Found, Allocated, Alive, DisabledSeen}
use Rattle.gp_machine.specs.State.{PortState, Rows, HasRow, Ranges, unit_with, rows_mapped}
use Rattle.gp_machine.specs.Sound.{IsSound, IsAsked, IsAskedBy}
use Rattle.gp_machine.specs.Changes.{StepResult, state_after}
use Rattle.gp_machine.specs.Responses.{Response, Responds, GivesOnu, GivesAlloc, step_result_with, busy_causes}
use Rattle.gp_machine.specs.SearchWindow.{refuses_burst, if_room, newcomer_causes, search_causes, owes_assign, newcomer_response, again_response, active_response, enabled_response, admitted_response, search_response}
use Rattle.gp_machine.specs.RangeWindow.{stranger_causes, measured_response, ranging_response}
use Rattle.gp_machine.specs.PollWindow.{alive_response, acknowledged_response, operating_response}
use Rattle.gp_machine.specs.Burst.{directed_response, message_response, heard_response, windowed_response, burst_response}
use Rattle.gp_machine.specs.Commands.{refuses, searching_causes, alloc_causes, dealloc_causes, popup_causes, alloc_response, dealloc_response, deactivate_response, disable_response, enable_response, popup_response, command_response}
use Rattle.gp_machine.specs.Closes.{suf_alarm, unranged_response, unpolled_response, poll_ended, close_response, asked_unit}
use Rattle.gp_machine.specs.Step.{Step, sent_at}
use Rattle.gp_machine.specs.Frame.{state_begun, decided_response, decision_after, opened_response, frame_response}
use Rattle.gp_machine.proofs.Units.{one_row, found, none_passes, has_put, has_left, has_mapped}
use Rattle.gp_machine.proofs.Steps.{sound_start}
use Rattle.gp_machine.proofs.Walks.{by_test, by_causes, by_unit, by_active}
use Rattle.gp_laws.specs.Polls.{end_by_answer, polls, poll_end}
use Rattle.gp_laws.proofs.PollCounts.{IsUnacked, CountsRow, same_row, polled_row, acknowledged_row, restarted_row, measured_row, unranged_row, alloc_row, releasing_row, popped_row, acked_quiet, gasped_quiet}

-- ---- what is true of a response

-- LOS, LOAM and LOA come from what is counted of poll windows
abbrev pub is_counted : AlarmKind → Bool
is_counted Los = true
is_counted Loam = true
is_counted Loa = true
is_counted Suf = false
is_counted Df = false
is_counted Dg = false

module _ (p : PortState) (end : ℕ → Option Outcome) where
  -- the row of a unit is what its row before became, whose poll window ended so
  abbrev pub ComesFrom : Serial → Row → Type 0
  ComesFrom s new = (old : Row) × HasRow p.rows s old × CountsRow (end old.onu) new old

  abbrev pub Come : Rows → Type 0
  Come rows = (s : Serial) (new : Row) → HasRow rows s new → ComesFrom s new

  -- a unit's poll window ended, and its counts give this alarm
  abbrev pub GivesAlarm : AlarmKind → Serial → Type 0
  GivesAlarm kind s = (row : Row) × (ended : Outcome) × HasRow p.rows s row × (end row.onu ≡ Some ended) × (alarm_polled row ended ≡ Some kind)

  pub record FollowsCounts (alarm : Option Alarm) : Type 0 where
    pub raised : (kind : AlarmKind) (s : Serial) → alarm ≡ Some (record { kind = kind; serial = s }) → is_counted kind ≡ true → GivesAlarm kind s
    pub given : (kind : AlarmKind) (s : Serial) → GivesAlarm kind s → alarm ≡ Some (record { kind = kind; serial = s })

  abbrev pub Counts : Option Alarm → Rows → Type 0
  Counts alarm rows = Come rows × FollowsCounts alarm

-- an alarm that comes from nothing that is counted
abbrev pub IsCalm : Option Alarm → Type 0
IsCalm None = Unit {0}
IsCalm (Some alarm) = is_counted alarm.kind ≡ false

-- what is true of a response, by how poll windows end with its reply
abbrev pub IsCounting : PortState → (Reply → ℕ → Option Outcome) → Response → Type 0
IsCounting p ends (Responds reply grant alarm changes) = Counts p (ends reply) alarm (state_after p changes).rows
IsCounting p ends (GivesOnu s) = (get p.rows s ≡ None) × ((onu n : ℕ) → ends (Found onu) n ≡ None)
IsCounting p ends (GivesAlloc s row) = HasRow p.rows s row × (is_some row.pending ≡ false) × ((alloc n : ℕ) → ends (Allocated alloc) n ≡ None)

no_alarm : (a : Alarm) → None ≡ Some a → ⊥
no_alarm a e = cc

no_end : (o : Outcome) → None ≡ Some o → ⊥
no_end o e = cc

cond_none : (b : Bool) → ◌≡◌ {A = Option Outcome} (cond b None None) None
cond_none true = refl
cond_none false = refl

-- ---- where no poll window ends

module _ (p : PortState) (end : ℕ → Option Outcome) (none : (n : ℕ) → end n ≡ None) where
  unended : (new old : Row) → CountsRow None new old → CountsRow (end old.onu) new old
  unended new old h = subst (λ (o : Option Outcome). CountsRow o new old) (sym (none old.onu)) h

  calm_alarm : (alarm : Option Alarm) → IsCalm alarm → FollowsCounts p end alarm
  calm_alarm None calm = record { raised = λ kind s is counted. absurd (no_alarm _ is); given = λ kind s h. absurd (no_end h.1 (sym (none h.0.onu) ∙ h.3)) }
  calm_alarm (Some a) calm =
      record {
        raised = λ kind s is counted. absurd (false≢true (sym calm ∙ ap (λ (k : AlarmKind). is_counted k) (same kind s is) ∙ counted));
        given = λ kind s h. absurd (no_end h.1 (sym (none h.0.onu) ∙ h.3));
      }
    where
      same : (kind : AlarmKind) (s : Serial) → ◌≡◌ {A = Option Alarm} (Some a) (Some (record { kind = kind; serial = s })) → a.kind ≡ kind
      same kind s e = ap (λ (x : Alarm). x.kind) (one e)
        where
          one : ◌≡◌ {A = Option Alarm} (Some a) (Some (record { kind = kind; serial = s })) → ◌≡◌ {A = Alarm} a (record { kind = kind; serial = s })
          one e = cc

  same_rows : Come p end p.rows
  same_rows s new h = (new, h, unended new new (same_row new))

  row_put : (t : Serial) (new old : Row) → HasRow p.rows t old → CountsRow None new old → Come p end (insert p.rows t new)
  row_put t new old has counts s row h = by_serial (has_put p.rows t new s row h)
    where
      by_serial : ((s ≡ t) × (new ≡ row)) ⊎ ((same_serial s t ≡ false) × HasRow p.rows s row) → ComesFrom p end s row
      by_serial (inl here) = (old, subst (λ (x : Serial). HasRow p.rows x old) (sym here.0) has, unended row old (subst (λ (r : Row). CountsRow None r old) here.1 counts))
      by_serial (inr there) = same_rows s row there.1

  row_removed : (t : Serial) → Come p end (remove p.rows t)
  row_removed t s row h = same_rows s row (has_left p.rows t s row h).1

  rows_popped : Come p end (rows_mapped (λ (row : Row). row_popped_up row row.phase) p.rows)
  rows_popped s new h =
      let before = has_mapped (λ (row : Row). row_popped_up row row.phase) p.rows s new h in
      (before.0, before.1, unended new before.0 (subst (λ (r : Row). CountsRow None r before.0) before.2 (popped_row before.0 before.0.phase)))

-- ---- where the poll window of one unit ends

module _ (p : PortState) (end : ℕ → Option Outcome) (sound : IsSound p) (t : Serial) (old : Row) (has : HasRow p.rows t old) (ended : Outcome)
    (here : end old.onu ≡ Some ended) (others : (n : ℕ) → (n ≡ old.onu → ⊥) → end n ≡ None) where
  -- another unit has another ONU-ID
  other_row : (s : Serial) (row : Row) → HasRow p.rows s row → (s ≡ t → ⊥) → ComesFrom p end s row
  other_row s row h apart =
      (row, h, subst (λ (o : Option Outcome). CountsRow o row row) (sym (others row.onu (λ same. apart (sound.units.apart s t row old h has (inl same))))) (same_row row))

  polled_put : (new : Row) → CountsRow (Some ended) new old → Come p end (insert p.rows t new)
  polled_put new counts s row h = by_serial (has_put p.rows t new s row h)
    where
      by_serial : ((s ≡ t) × (new ≡ row)) ⊎ ((same_serial s t ≡ false) × HasRow p.rows s row) → ComesFrom p end s row
      by_serial (inl at) =
          (old, subst (λ (x : Serial). HasRow p.rows x old) (sym at.0) has, subst (λ (o : Option Outcome). CountsRow o row old) (sym here) (subst (λ (r : Row). CountsRow (Some ended) r old) at.1 counts))
      by_serial (inr there) = other_row s row there.1 (λ same. differs_from same there.0)
        where
          differs_from : s ≡ t → same_serial s t ≡ false → ⊥
          differs_from same differs = false≢true (sym differs ∙ ap (λ (x : Serial). same_serial x t) same ∙ same_serial-itself t)

  polled_removed : Come p end (remove p.rows t)
  polled_removed s row h =
      let left = has_left p.rows t s row h in
      other_row s row left.1 (λ same. false≢true (sym left.0 ∙ ap (λ (x : Serial). same_serial x t) same ∙ same_serial-itself t))

  -- the unit whose window ended, and how
  one_ended : (s : Serial) (row : Row) (o : Outcome) → HasRow p.rows s row → end row.onu ≡ Some o → (s ≡ t) × (row ≡ old) × (o ≡ ended)
  one_ended s row o h is =
      elim (cases_Bool (row.onu == old.onu)) [
        | inl b ↦
            let same = eqb-true row.onu old.onu b in
            let at : s ≡ t = sound.units.apart s t row old h has (inl same) in
            (at, one_row row old (sym h ∙ ap (λ (x : Serial). get p.rows x) at ∙ has), one (sym is ∙ ap end same ∙ here))
        | inr b ↦ absurd (no_end o (sym (others row.onu (eqb-false row.onu old.onu b)) ∙ is))
      ]
    where
      one : Some o ≡ Some ended → o ≡ ended
      one e = cc

  polled_calm : alarm_polled old ended ≡ None → (alarm : Option Alarm) → IsCalm alarm → FollowsCounts p end alarm
  polled_calm quiet alarm calm =
      record {
        raised = λ kind s is counted. absurd (calm_not alarm calm kind s is counted);
        given = λ kind s h. let there = one_ended s h.0 h.1 h.2 h.3 in absurd (none kind (sym quiet ∙ (λ i. alarm_polled (sym there.1 i) (sym there.2 i)) ∙ h.4));
      }
    where
      none : (kind : AlarmKind) → None ≡ Some kind → ⊥
      none kind e = cc

      calm_not : (alarm : Option Alarm) → IsCalm alarm → (kind : AlarmKind) (s : Serial) → alarm ≡ Some (record { kind = kind; serial = s }) → is_counted kind ≡ true → ⊥
      calm_not None calm kind s is counted = no_alarm _ is
      calm_not (Some a) calm kind s is counted = false≢true (sym calm ∙ ap (λ (x : Alarm). is_counted x.kind) (one is) ∙ counted)
        where
          one : ◌≡◌ {A = Option Alarm} (Some a) (Some (record { kind = kind; serial = s })) → ◌≡◌ {A = Alarm} a (record { kind = kind; serial = s })
          one e = cc

  polled_alarm : (kind : AlarmKind) → alarm_polled old ended ≡ Some kind → FollowsCounts p end (Some (record { kind = kind; serial = t }))
  polled_alarm kind gives =
      record {
        raised = λ k s is counted.
            let same = one k s is in
            (old, ended, subst (λ (x : Serial). HasRow p.rows x old) (ap (λ (x : Alarm). x.serial) same) has, here, gives ∙ ap (λ (x : Alarm). Some x.kind) same);
        given = λ k s h.
            let there = one_ended s h.0 h.1 h.2 h.3 in
            let kinds : kind ≡ k = one_kind k (sym gives ∙ (λ i. alarm_polled (sym there.1 i) (sym there.2 i)) ∙ h.4) in
            λ i. Some (record { kind = kinds i; serial = sym there.0 i });
      }
    where
      one : (k : AlarmKind) (s : Serial) → ◌≡◌ {A = Option Alarm} (Some (record { kind = kind; serial = t })) (Some (record { kind = k; serial = s }))
          → ◌≡◌ {A = Alarm} (record { kind = kind; serial = t }) (record { kind = k; serial = s })
      one k s e = cc

      one_kind : (k : AlarmKind) → Some kind ≡ Some k → kind ≡ k
      one_kind k e = cc

-- ---- responses that end no poll window

module _ (p : PortState) (ends : Reply → ℕ → Option Outcome) (none : (reply : Reply) (n : ℕ) → ends reply n ≡ None) where
  -- no row changes
  still : (reply : Reply) (alarm : Option Alarm) → IsCalm alarm → Counts p (ends reply) alarm p.rows
  still reply alarm calm = (same_rows p (ends reply) (none reply), calm_alarm p (ends reply) (none reply) alarm calm)

  -- one row changes
  puts : (reply : Reply) (t : Serial) (new old : Row) → HasRow p.rows t old → CountsRow None new old → Counts p (ends reply) None (insert p.rows t new)
  puts reply t new old has counts = (row_put p (ends reply) (none reply) t new old has counts, calm_alarm p (ends reply) (none reply) None tt)

  -- one unit is removed
  removes : (reply : Reply) (alarm : Option Alarm) (t : Serial) → IsCalm alarm → Counts p (ends reply) alarm (remove p.rows t)
  removes reply alarm t calm = (row_removed p (ends reply) (none reply) t, calm_alarm p (ends reply) (none reply) alarm calm)

  -- ---- a search window

  refused_burst : (r : Refusal) → IsCounting p ends (refuses_burst r)
  refused_burst r = still (Refused r) None tt

  with_room : (d : Response) → IsCounting p ends d → IsCounting p ends (if_room p d)
  with_room d done = by_causes (IsCounting p ends) refuses_burst (busy_causes p) d refused_burst (λ causes. done)

  newcomer : (u : ℕ) (s : Serial) → get p.rows s ≡ None → IsCounting p ends (newcomer_response u p s)
  newcomer u s unknown = by_causes (IsCounting p ends) refuses_burst (newcomer_causes u p) (GivesOnu s) refused_burst (λ causes. (unknown, λ onu n. none (Found onu) n))

  again : (s : Serial) (row : Row) → HasRow p.rows s row → IsCounting p ends (again_response p s row.onu)
  again s row has =
      by_test (IsCounting p ends) (owes_assign p row.onu s) _ _ (λ told. still _ None tt) (λ untold. with_room _ (puts _ s (new_row row.onu) row has (restarted_row row)))

  active : (s : Serial) (row : Row) → HasRow p.rows s row → (phase : Phase) → IsCounting p ends (active_response p s row.onu phase)
  active s row has (Ranging attempts seen) = again s row has
  active s row has (Operating eqd dark garbled) = with_room _ (removes _ None s tt)

  enabled : (u : ℕ) (s : Serial) → (o : Option Row) → get p.rows s ≡ o → IsCounting p ends (enabled_response u p s o)
  enabled u s None is = newcomer u s is
  enabled u s (Some row) is = active s row is row.phase

  in_search : (u : ℕ) (message : Up) → IsCounting p ends (search_response u p message)
  in_search u (SerialNumber octet1 s random flags) =
      by_causes (IsCounting p ends) refuses_burst (search_causes p octet1 s) (admitted_response u p s) refused_burst
      (λ causes.
      by_test (IsCounting p ends) (contains p.disabled s) _ (enabled_response u p s (get p.rows s)) (λ disabled. still DisabledSeen (Some (record { kind = Df; serial = s })) refl)
      (λ free. enabled u s (get p.rows s) refl))
  in_search u message = refused_burst WrongWindow

  -- ---- a ranging window

  measured : (s : Serial) (row : Row) → HasRow p.rows s row → is_ranging row.phase ≡ true → (o : Option ℕ) → IsCounting p ends (measured_response p s row o)
  measured s row has ranging None = still _ None tt
  measured s row has ranging (Some eqd) = with_room _ (puts _ s (row_measured row eqd) row has (measured_row row eqd ranging))

  in_range : (at : ℕ) (s : Serial) (row : Row) (message : Up) → HasRow p.rows s row → is_ranging row.phase ≡ true → IsCounting p ends (ranging_response p at s row message)
  in_range at s row (SerialNumber octet1 told random flags) has ranging =
      by_causes (IsCounting p ends) refuses_burst (stranger_causes (same_serial told s)) (measured_response p s row (equalization_delay p.config.teqd at)) refused_burst
      (λ causes. measured s row has ranging (equalization_delay p.config.teqd at))
  in_range at s row (DyingGasp octet1) has ranging = still _ (Some (record { kind = Dg; serial = s })) refl
  in_range at s row message has ranging = still _ None tt

  ranged : (at n : ℕ) (message : Up) → ((s : Serial) (row : Row) → HasRow p.rows s row → row.onu ≡ n → is_ranging row.phase ≡ true)
      → (o : Option (Serial × Row)) → unit_with p.rows n ≡ o → IsCounting p ends (directed_response (λ s row m. ranging_response p at s row m) n message o)
  ranged at n message all None is = refused_burst WrongWindow
  ranged at n message all (Some (s, row)) is =
      let there = found p.rows (λ (r : Row). r.onu == n) s row is in
      by_causes (IsCounting p ends) refuses_burst (stranger_causes (octet1_of message == n)) (ranging_response p at s row message) refused_burst
      (λ causes. in_range at s row message there.0 (all s row there.0 (eqb-true row.onu n there.1)))

  -- ---- commands

  refused : (r : Refusal) → IsCounting p ends (refuses r)
  refused r = still (Refused r) None tt

  alloc : (s : Serial) (row : Row) → HasRow p.rows s row → IsCounting p ends (alloc_response p s row)
  alloc s row has = by_causes (IsCounting p ends) refuses (alloc_causes p row) (GivesAlloc s row) refused (λ causes. (has, causes.1.0, λ a n. none (Allocated a) n))

  dealloc : (s : Serial) (a : ℕ) (row : Row) → HasRow p.rows s row → IsCounting p ends (dealloc_response p s a row)
  dealloc s a row has = by_causes (IsCounting p ends) refuses (dealloc_causes p row a) _ refused (λ causes. puts _ s (row_releasing row a) row has (releasing_row row a causes.1.0))

  disable : (s : Serial) → (o : Option Row) → IsCounting p ends (disable_response p s o)
  disable s None = by_causes (IsCounting p ends) refuses (busy_causes p) _ refused (λ causes. still _ None tt)
  disable s (Some row) = by_causes (IsCounting p ends) refuses (busy_causes p) _ refused (λ causes. removes _ None s tt)

  counting_command : (c : Command) → IsCounting p ends (command_response p c)
  counting_command command.Search = by_causes (IsCounting p ends) refuses (searching_causes p) _ refused (λ causes. still _ None tt)
  counting_command (command.Alloc s) = by_active (IsCounting p ends) p s (λ (row : Row). alloc_response p s row) refused (λ row has. alloc s row has)
  counting_command (command.Dealloc s a) = by_active (IsCounting p ends) p s (λ (row : Row). dealloc_response p s a row) refused (λ row has. dealloc s a row has)
  counting_command (command.Deactivate s) =
      by_active (IsCounting p ends) p s (λ (row : Row). deactivate_response p s row) refused
      (λ row has. by_causes (IsCounting p ends) refuses (busy_causes p) _ refused (λ causes. removes _ None s tt))
  counting_command (command.Disable s) = by_unit (IsCounting p ends) p s (λ (o : Option Row). disable_response p s o) refused (λ admitted o is. disable s o)
  counting_command (command.Enable s) =
      by_unit (IsCounting p ends) p s (λ (o : Option Row). enable_response p s o) refused
      (λ admitted o is. by_causes (IsCounting p ends) refuses (busy_causes p) _ refused (λ causes. still _ None tt))
  counting_command command.EnableAll = by_causes (IsCounting p ends) refuses (busy_causes p) _ refused (λ causes. still _ None tt)
  counting_command (command.Popup s) =
      by_active (IsCounting p ends) p s (λ (row : Row). popup_response p row) refused
      (λ row has. by_causes (IsCounting p ends) refuses (popup_causes p row) _ refused (λ causes. still _ None tt))
  counting_command command.PopupAll =
      by_causes (IsCounting p ends) refuses (busy_causes p) _ refused (λ causes. (rows_popped p (ends _) (none _), calm_alarm p (ends _) (none _) None tt))
  counting_command (command.Show s) = by_active (IsCounting p ends) p s _ refused (λ row has. still _ None tt)

-- ---- a poll window

module _ (p : PortState) (sound : IsSound p) where
  -- a burst in the poll window of a unit, by how a reply ends it
  module _ (n : ℕ) (by_reply : Reply → Option Outcome) (s : Serial) (row : Row) (has : HasRow p.rows s row) (onu : row.onu ≡ n) where
    abbrev Ends : Reply → ℕ → Option Outcome
    Ends reply m = cond (n == m) (by_reply reply) None

    no_others : (reply : Reply) (m : ℕ) → (m ≡ row.onu → ⊥) → Ends reply m ≡ None
    no_others reply m other =
        elim (cases_Bool (n == m)) [
          | inl b ↦ absurd (other (sym (eqb-true n m b) ∙ sym onu))
          | inr b ↦ ap (λ (x : Bool). cond x (by_reply reply) None) b
        ]

    ends_so : (reply : Reply) → Ends reply row.onu ≡ by_reply reply
    ends_so reply = ap (λ (x : Bool). cond x (by_reply reply) None) (eq-eqb n row.onu (sym onu))

    ends_not : (reply : Reply) → by_reply reply ≡ None → (m : ℕ) → Ends reply m ≡ None
    ends_not reply is m =
        elim (cases_Bool (n == m)) [
          | inl b ↦ ap (λ (x : Bool). cond x (by_reply reply) None) b ∙ is
          | inr b ↦ ap (λ (x : Bool). cond x (by_reply reply) None) b
        ]

    -- the window ended so, with no alarm
    polled_quietly : (reply : Reply) (ended : Outcome) (alarm : Option Alarm) (new : Row) → by_reply reply ≡ Some ended → CountsRow (Some ended) new row → alarm_polled row ended ≡ None → IsCalm alarm
        → Counts p (Ends reply) alarm (insert p.rows s new)
    polled_quietly reply ended alarm new is counts quiet calm = (
      polled_put p (Ends reply) sound s row has ended (ends_so reply ∙ is) (no_others reply) new counts,
      polled_calm p (Ends reply) sound s row has ended (ends_so reply ∙ is) (no_others reply) quiet alarm calm,
    )

    -- it ended so, with an alarm
    polled_loudly : (reply : Reply) (ended : Outcome) (kind : AlarmKind) → by_reply reply ≡ Some ended → alarm_polled row ended ≡ Some kind
        → Counts p (Ends reply) (Some (record { kind = kind; serial = s })) (remove p.rows s)
    polled_loudly reply ended kind is gives = (
      polled_removed p (Ends reply) sound s row has ended (ends_so reply ∙ is) (no_others reply),
      polled_alarm p (Ends reply) sound s row has ended (ends_so reply ∙ is) (no_others reply) kind gives,
    )

    -- a frame closes it
    unpolled : (ended : Outcome) → IsUnacked (Some ended) → by_reply Ticked ≡ Some ended → (o : Option AlarmKind) → alarm_polled row ended ≡ o → IsCounting p Ends (unpolled_response s row ended o)
    unpolled ended unacked is None quiet = polled_quietly Ticked ended None (row_polled row ended) is (polled_row row ended unacked) quiet tt
    unpolled ended unacked is (Some kind) gives = polled_loudly Ticked ended kind is gives

  module _ (n : ℕ) (s : Serial) (row : Row) (has : HasRow p.rows s row) (onu : row.onu ≡ n) where
    alive : (o : Option AlarmKind) → alarm_polled row Good ≡ o → IsCounting p (Ends n end_by_answer s row has onu) (alive_response s row o)
    alive None quiet = polled_quietly n end_by_answer s row has onu (Alive row.onu) Good None (row_polled row Good) refl (polled_row row Good tt) quiet tt
    alive (Some kind) gives = polled_loudly n end_by_answer s row has onu (Alive row.onu) Good kind refl gives

    acknowledged : (o : Option ℕ) → IsCounting p (Ends n end_by_answer s row has onu) (acknowledged_response s row o)
    acknowledged None = alive (alarm_polled row Good) refl
    acknowledged (Some a) =
        polled_quietly n end_by_answer s row has onu (reply.Acked a) Acked None (row_acknowledged (row_polled row Acked) a) refl (acknowledged_row row a) (acked_quiet row) tt

    in_poll : (message : Up) → IsCounting p (Ends n end_by_answer s row has onu) (operating_response s row message)
    in_poll (Acknowledge octet1 id copy) =
        by_test (IsCounting p (Ends n end_by_answer s row has onu)) (id == 10) _ _ (λ alloc. acknowledged row.pending) (λ other. alive (alarm_polled row Good) refl)
    in_poll (DyingGasp octet1) =
        polled_quietly n end_by_answer s row has onu (reply.Gasp row.onu) Gasped (Some (record { kind = Dg; serial = s })) (row_polled row Gasped) refl (polled_row row Gasped tt)
        (gasped_quiet row p.config.alloc_last (sound.units.each s row has).fits) refl
    in_poll message = alive (alarm_polled row Good) refl

  -- ---- any window

  module _ (at : ℕ) (bytes : List ℕ) where
    abbrev BurstEnds : Option WindowState → Reply → ℕ → Option Outcome
    BurstEnds o reply n = poll_end o (event.Burst at bytes) reply n

    refused_ends : (o : Option WindowState) (r : Refusal) (n : ℕ) → BurstEnds o (Refused r) n ≡ None
    refused_ends None r n = refl
    refused_ends (Some w) r n = cond_none (polls w.grant n)

    refused_in : (o : Option WindowState) (r : Refusal) → IsCounting p (BurstEnds o) (refuses_burst r)
    refused_in o r = (same_rows p (BurstEnds o (Refused r)) (refused_ends o r), calm_alarm p (BurstEnds o (Refused r)) (refused_ends o r) None tt)

    polled : (left n : ℕ) (seen : Bool) (message : Up) (o : Option (Serial × Row)) → unit_with p.rows n ≡ o
        → IsCounting p (BurstEnds (Some (record { grant = Poll n; left = left; seen = seen }))) (directed_response (λ s row m. operating_response s row m) n message o)
    polled left n seen message None is = refused_in (Some (record { grant = Poll n; left = left; seen = seen })) WrongWindow
    polled left n seen message (Some (s, row)) is =
        let there = found p.rows (λ (r : Row). r.onu == n) s row is in
        by_causes (IsCounting p (BurstEnds (Some (record { grant = Poll n; left = left; seen = seen })))) refuses_burst (stranger_causes (octet1_of message == n)) (operating_response s row message)
        (refused_in (Some (record { grant = Poll n; left = left; seen = seen }))) (λ causes. in_poll n s row there.0 (eqb-true row.onu n there.1) message)

    -- the unit with this ONU-ID is ranging
    only_ranging : (n : ℕ) → Ranges p.rows n → (s : Serial) (row : Row) → HasRow p.rows s row → row.onu ≡ n → is_ranging row.phase ≡ true
    only_ranging n h s row has same =
        let one : s ≡ h.0 = sound.units.apart s h.0 row h.1 has h.2 (inl (same ∙ sym h.4)) in
        let rows_same : row ≡ h.1 = one_row row h.1 (sym has ∙ ap (λ (x : Serial). get p.rows x) one ∙ h.2) in
        ap (λ (r : Row). is_ranging r.phase) rows_same ∙ h.3

    by_grant : (u left : ℕ) (g : Grant) (seen : Bool) (message : Up) → IsAskedBy p.rows g → IsCounting p (BurstEnds (Some (record { grant = g; left = left; seen = seen }))) (message_response u p at g message)
    by_grant u left Search seen message asked = in_search p (BurstEnds (Some (record { grant = Search; left = left; seen = seen }))) (λ reply n. refl) u message
    by_grant u left (Range n) seen message asked =
        ranged p (BurstEnds (Some (record { grant = Range n; left = left; seen = seen }))) (λ reply m. refl) at n message (only_ranging n asked) (unit_with p.rows n) refl
    by_grant u left (Poll n) seen message asked = polled left n seen message (unit_with p.rows n) refl

    heard_in : (u : ℕ) (w : WindowState) (heard : Option Up) → IsAskedBy p.rows w.grant → IsCounting p (BurstEnds (Some w)) (heard_response u p at w.grant heard)
    heard_in u w None asked = refused_in (Some w) refusal.Garbled
    heard_in u w (Some message) asked = by_grant u w.left w.grant w.seen message asked

    by_window : (u : ℕ) (heard : Option Up) (o : Option WindowState) → IsAsked p.rows o → IsCounting p (BurstEnds o) (windowed_response u p at heard o)
    by_window u heard None asked = refused_in None Stray
    by_window u heard (Some w) asked = heard_in u w heard asked

    counting_burst : (u : ℕ) (heard : Option Up) → IsCounting p (BurstEnds p.window) (burst_response u p at heard)
    counting_burst u heard = by_window u heard p.window sound.window.asked

  command_ends : (c : Command) (o : Option WindowState) (reply : Reply) (n : ℕ) → poll_end o (event.Command c) reply n ≡ None
  command_ends c None reply n = refl
  command_ends c (Some w) reply n = cond_none (polls w.grant n)

-- ---- a frame

module _ (p : PortState) (ranging next : Option ℕ) (sound : IsSound (state_begun p)) where
  abbrev q : PortState
  q = state_begun p

  abbrev FrameEnds : Option WindowState → Reply → ℕ → Option Outcome
  FrameEnds o reply n = poll_end o event.Frame reply n

  decided : (d : Common × Decision) → IsCounting q (FrameEnds None) (decided_response p d)
  decided (c, Nothing) = still q (FrameEnds None) (λ reply n. refl) Ticked None tt
  decided (c, Overhead) = still q (FrameEnds None) (λ reply n. refl) Ticked None tt
  decided (c, Ask g) = still q (FrameEnds None) (λ reply n. refl) Ticked None tt

  -- how a window ends that a frame closes
  abbrev Closes : Bool → Grant → Reply → ℕ → Option Outcome
  Closes seen g reply n = cond (polls g n) (Some (poll_ended seen)) None

  calm_suf : (s : Serial) (heard : Bool) → IsCalm (suf_alarm heard s)
  calm_suf s true = refl
  calm_suf s false = tt

  unranged : (seen : Bool) (n : ℕ) (s : Serial) (row : Row) → HasRow p.rows s row → (o : Option Row) → row_unranged row seen row.phase ≡ o → IsCounting q (Closes seen (Range n)) (unranged_response s row seen o)
  unranged seen n s row has None is = removes q (Closes seen (Range n)) (λ reply m. refl) Ticked (suf_alarm (was_seen row.phase || seen) s) s (calm_suf s (was_seen row.phase || seen))
  unranged seen n s row has (Some again) is = puts q (Closes seen (Range n)) (λ reply m. refl) Ticked s again row has (unranged_row row again seen row.phase is)

  unacked : (seen : Bool) → IsUnacked (Some (poll_ended seen))
  unacked true = tt
  unacked false = tt

  closes : (seen : Bool) (g : Grant) (o : Option (Serial × Row)) → IsAskedBy p.rows g → asked_unit p g ≡ o → IsCounting q (Closes seen g) (close_response seen g o)
  closes seen Search o asked is = still q (Closes seen Search) (λ reply n. refl) Ticked None tt
  closes seen (Range n) None asked is = still q (Closes seen (Range n)) (λ reply n. refl) Ticked None tt
  closes seen (Range n) (Some (s, row)) asked is = unranged seen n s row (found p.rows (λ (r : Row). r.onu == n) s row is).0 (row_unranged row seen row.phase) refl
  closes seen (Poll n) None asked is = absurd (false≢true (sym (none_passes p.rows (λ (r : Row). r.onu == n) is asked.0 asked.1 asked.2) ∙ eq-eqb asked.1.onu n asked.4))
  closes seen (Poll n) (Some (s, row)) asked is =
      let there = found p.rows (λ (r : Row). r.onu == n) s row is in
      unpolled q sound n (λ reply. Some (poll_ended seen)) s row there.0 (eqb-true row.onu n there.1) (poll_ended seen) (unacked seen) refl (alarm_polled row (poll_ended seen)) refl

  in_window : (w : WindowState) → IsAskedBy p.rows w.grant → IsCounting q (FrameEnds (Some w)) (opened_response p ranging next (Some w))
  in_window w asked =
      by_test (IsCounting q (FrameEnds (Some w))) (w.left == 1) _ _
      (λ last. subst (λ (b : Bool). IsCounting q (λ reply n. cond (polls w.grant n) (cond b (Some (poll_ended w.seen)) None) None) (close_response w.seen w.grant (asked_unit p w.grant))) (sym last) (closes w.seen w.grant (asked_unit p w.grant) asked refl))
      (λ more.
      still q (FrameEnds (Some w))
      (λ reply n. ap (λ (b : Bool). cond (polls w.grant n) (cond b (Some (poll_ended w.seen)) None) None) more ∙ cond_none (polls w.grant n)) Ticked None tt)

  by_opened : (o : Option WindowState) → IsAsked p.rows o → IsCounting q (FrameEnds o) (opened_response p ranging next o)
  by_opened None asked =
      by_test (IsCounting q (FrameEnds None)) (is_none (first_of p.owed)) _ _ (λ idle. decided (decision_after p ranging next))
      (λ busy. still q (FrameEnds None) (λ reply n. refl) Ticked None tt)
  by_opened (Some w) asked = in_window w asked

  counting_frame : IsCounting q (FrameEnds p.window) (frame_response p ranging next)
  counting_frame = by_opened p.window sound.window.asked

-- ---- a step

-- the row of a unit that is found
abbrev pub IsFound : PortState → StepResult → Serial → Row → Type 0
IsFound p o s new = (get p.rows s ≡ None) × (o.answer.reply ≡ Found new.onu) × (new ≡ new_row new.onu)

-- each row is that of a unit that is found, or what the row before became; the alarm follows the counts
pub record Counted (p : PortState) (ends : Reply → ℕ → Option Outcome) (o : StepResult) : Type 0 where
  pub rows : (s : Serial) (new : Row) → HasRow o.state.rows s new → IsFound p o s new ⊎ ComesFrom p (ends o.answer.reply) s new
  pub alarm : FollowsCounts p (ends o.answer.reply) o.answer.alarm

done : (u : ℕ) (p : PortState) (ends : Reply → ℕ → Option Outcome) (sent : Option Down) (d : Response) (n : ℕ) → IsCounting p ends d → Counted p ends (step_result_with u p sent d n)
done u p ends sent (Responds reply grant alarm changes) n h = record { rows = λ s new has. inr (h.0 s new has); alarm = h.1 }
done u p ends sent (GivesOnu t) n h =
    record { rows = λ s new has. by_serial s new (has_put p.rows t (new_row n) s new has); alarm = calm_alarm p (ends (Found n)) (h.1 n) None tt }
  where
    by_serial : (s : Serial) (new : Row) → ((s ≡ t) × (new_row n ≡ new)) ⊎ ((same_serial s t ≡ false) × HasRow p.rows s new)
        → IsFound p (step_result_with u p sent (GivesOnu t) n) s new ⊎ ComesFrom p (ends (Found n)) s new
    by_serial s new (inl here) =
        let onu : n ≡ new.onu = ap (λ (r : Row). r.onu) here.1 in
        inl (ap (λ (x : Serial). get p.rows x) here.0 ∙ h.0, ap (λ (m : ℕ). Found m) onu, sym here.1 ∙ ap new_row onu)
    by_serial s new (inr there) = inr (same_rows p (ends (Found n)) (h.1 n) s new there.1)
done u p ends sent (GivesAlloc t row) n h =
    record {
      rows = λ s new has. inr (row_put p (ends (Allocated n)) (h.2 n) t (row_with_alloc row n) row h.0 (alloc_row row n h.1) s new has);
      alarm = calm_alarm p (ends (Allocated n)) (h.2 n) None tt;
    }

-- a frame changes no row and no window before it is answered
begun : (p : PortState) (ends : Reply → ℕ → Option Outcome) (o : StepResult) → Counted (state_begun p) ends o → Counted p ends o
begun p ends o h = record { rows = h.rows; alarm = record { raised = h.alarm.raised; given = h.alarm.given } }

pub counted_step : (u : ℕ) (p : PortState) (e : Event) (o : StepResult) → IsSound p → Step u p e o → Counted p (λ reply n. poll_end p.window e reply n) o
counted_step u p event.Frame o sound step =
    let s = step.1 in
    let h = counting_frame p s.said.0 s.said.1 (sound_start p event.Frame sound) in
    begun p (λ reply n. poll_end p.window event.Frame reply n) o
    (subst (λ (x : StepResult). Counted (state_begun p) (λ reply n. poll_end p.window event.Frame reply n) x) (sym s.is)
    (done u (state_begun p) (λ reply n. poll_end p.window event.Frame reply n) (sent_at p event.Frame) s.response s.picked
    (subst (λ (d : Response). IsCounting (state_begun p) (λ reply n. poll_end p.window event.Frame reply n) d) (sym s.said.4) h)))
counted_step u p (event.Burst at bytes) o sound step =
    let s = step.1 in
    subst (λ (x : StepResult). Counted p (λ reply n. poll_end p.window (event.Burst at bytes) reply n) x) (sym s.is)
    (done u p (λ reply n. poll_end p.window (event.Burst at bytes) reply n) None s.response s.picked
    (subst (λ (d : Response). IsCounting p (λ reply n. poll_end p.window (event.Burst at bytes) reply n) d) (sym s.said.2) (counting_burst p sound at bytes u s.said.0)))
counted_step u p (event.Command c) o sound step =
    let s = step.1 in
    subst (λ (x : StepResult). Counted p (λ reply n. poll_end p.window (event.Command c) reply n) x) (sym s.is)
    (done u p (λ reply n. poll_end p.window (event.Command c) reply n) None s.response s.picked
    (subst (λ (d : Response). IsCounting p (λ reply n. poll_end p.window (event.Command c) reply n) d) (sym s.said)
    (counting_command p (λ reply n. poll_end p.window (event.Command c) reply n) (command_ends p sound c p.window) c)))
