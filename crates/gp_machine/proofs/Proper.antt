-- What the tables say may be done: in a sound state each change of each response may be made.
use Rattle.std.proofs.Common.{[], ◌∷◌, ◌≡◌, ℕ, zero, suc, ◌+◌, ◌<◌, ◌≤◌, ◌==◌, true, false, length, List, Option, None, Some, inl, inr, ⊎_elim, refl, sym, ap, subst, ◌∙◌, arith, not, is_some}
use Rattle.std.specs.FinMap.{get, insert, remove}
use Rattle.std.specs.FinSet.{contains}
use Rattle.std.proofs.lemmas.Bool.{false≢true, eqb-false, leb-true}
use Rattle.gp_ploam.specs.declared.message.Serial.{Serial}
use Rattle.gp_ploam.specs.declared.message.Up.{Up}
use Rattle.gp_ploam.specs.declared.message.Up.TheVariants.{SerialNumber, DyingGasp, Acknowledge}
use Rattle.gp_ploam.specs.Serials.{same_serial, is_among}
use Rattle.gp_ploam.specs.Up.{octet1_of}
use Rattle.gp_ploam.proofs.Serials.{same_serial-itself}
use Rattle.gp_ranging.specs.declared.grant.Grant.{Grant}
use Rattle.gp_ranging.specs.declared.grant.Grant.TheVariants.{Search, Range, Poll}
use Rattle.gp_ranging.specs.Window.{WindowState}
use Rattle.gp_ranging.specs.Delay.{equalization_delay}
use Rattle.gp_alarms.specs.declared.alarm.Alarm.{Alarm}
use Rattle.gp_alarms.specs.declared.alarm.AlarmKind.{AlarmKind}
use Rattle.gp_alarms.specs.declared.poll.Outcome.TheVariants as poll
use Rattle.gp_unit.specs.declared.row.Phase.{Phase}
use Rattle.gp_unit.specs.declared.row.Phase.TheVariants.{Ranging, Operating}
use Rattle.gp_unit.specs.declared.row.Row.{Row}
use Rattle.gp_unit.specs.Rows.{has_alloc, holds_alloc, new_row, row_measured, row_polled, alarm_polled, row_with_alloc, row_releasing, row_acknowledged}
use Rattle.gp_unit.specs.Sound.{IsSoundRow}
use Rattle.gp_unit.proofs.Kept.{sound_new, sound_measured, sound_polled, sound_gasped, sound_acked, sound_with_alloc, sound_releasing, sound_acknowledged, has_with_alloc, has_acknowledged, has_held, has_none}
use Rattle.gp_machine.specs.declared.event.Command.{Command}
use Rattle.gp_machine.specs.declared.event.Command.TheVariants as command
use Rattle.gp_machine.specs.declared.refusal.Refusal.{Refusal}
use Rattle.gp_machine.specs.declared.refusal.Refusal.TheVariants.{Stray, WrongWindow, Garbled}
use Rattle.gp_machine.specs.declared.reply.Reply.{Reply}
use Rattle.gp_machine.specs.declared.reply.Reply.TheVariants.{Found, Allocated, Refused}
use Rattle.gp_machine.specs.State.{has_free_onu, has_free_alloc, PortState, Rows, HasRow, unit_with}
use Rattle.gp_machine.specs.Sound.{IsSound, IsAskedBy, IsAsked, copies_at_most}
use Rattle.gp_machine.specs.Changes.{MarksSeen, Change, window_without, window_unpolled, state_closed}
use Rattle.gp_machine.specs.Responses.{Response, Responds, GivesOnu, GivesAlloc, MayPick, changes_with, has_room, busy_causes, removal}
use Rattle.gp_machine.specs.SearchWindow.{refuses_burst, if_room, newcomer_causes, search_causes, owes_assign, newcomer_response, again_response, active_response, enabled_response, admitted_response, search_response}
use Rattle.gp_machine.specs.RangeWindow.{stranger_causes, measured_response, ranging_response}
use Rattle.gp_machine.specs.PollWindow.{alive_response, acknowledged_response, operating_response}
use Rattle.gp_machine.specs.Burst.{directed_response, message_response, heard_response, windowed_response, burst_response}
use Rattle.gp_machine.specs.Commands.{refuses, searching_causes, alloc_causes, dealloc_causes, popup_causes, alloc_response, dealloc_response, deactivate_response, disable_response, enable_response, popup_response, command_response}
use Rattle.gp_machine.proofs.SerialLists.{admitted_contains}
use Rattle.gp_machine.proofs.FreeNumbers.{free_onu, free_alloc}
use Rattle.gp_machine.proofs.Units.{found, has_left}
use Rattle.gp_machine.proofs.Walks.{by_test, not_false, by_causes, by_unit, by_active}
use Rattle.gp_machine.proofs.SoundChanges.{MayPut, MayMakeChanges, asked_same}

-- a reply that hands out no number; with a refusal nothing is granted and raised, and these changes are made
abbrev pub IsPlain : List Change → Reply → Option Grant → Option Alarm → List Change → Type 0
IsPlain refusing (Found onu) grant alarm changes = ⊥
IsPlain refusing (Allocated alloc) grant alarm changes = ⊥
IsPlain refusing (Refused refusal) grant alarm changes = (grant ≡ None) × (alarm ≡ None) × (changes ≡ refusing)
IsPlain refusing reply grant alarm changes = Unit {0}

-- only what picks a number hands one out
abbrev pub IsHonest : List Change → Response → Type 0
IsHonest refusing (Responds reply grant alarm changes) = IsPlain refusing reply grant alarm changes
IsHonest refusing (GivesOnu serial) = Unit {0}
IsHonest refusing (GivesAlloc serial row) = Unit {0}

-- what is said may be done; a refusal makes these changes
pub record IsProper (u : ℕ) (p : PortState) (refusing : List Change) (response : Response) : Type 0 where
  pub changes : (n : ℕ) → MayPick p response n → MayMakeChanges u p (changes_with response n)
  pub honest : IsHonest refusing response
  pub some : (n : ℕ) × MayPick p response n

pub does : (u : ℕ) (p : PortState) (refusing : List Change) (reply : Reply) (grant : Option Grant) (alarm : Option Alarm) (changes : List Change) → IsPlain refusing reply grant alarm changes → MayMakeChanges u p changes → IsProper u p refusing (Responds reply grant alarm changes)
does u p refusing reply grant alarm changes plain may = record { changes = λ n picked. may; honest = plain; some = (0, tt) }

-- what is said in a burst is proper
abbrev pub IsHeard : ℕ → PortState → Response → Type 0
IsHeard u p response = IsProper u p (MarksSeen ∷ []) response

-- what is said in a command or a frame is
abbrev pub IsObeyed : ℕ → PortState → Response → Type 0
IsObeyed u p response = IsProper u p [] response

-- ---- room for messages

pub fits : (w : Option WindowState) (n : ℕ) → n ≤ 189 → n ≤ copies_at_most w
fits None n h = omega arith
fits (Some w) n h = h

room_fits : (p : PortState) → not (has_room p) ≡ false → (w : Option WindowState) → length p.owed + 3 ≤ copies_at_most w
room_fits p h w = fits w (length p.owed + 3) (leb-true _ _ (not_false (has_room p) h))

-- while a window is open there is room for a message after it closes
pub after_window : (p : PortState) (w : WindowState) → IsSound p → p.window ≡ Some w → length p.owed + 3 ≤ 192
after_window p w h opened = let few = subst (λ (o : Option WindowState). length p.owed ≤ copies_at_most o) opened h.window.owed in omega arith

-- ---- a row that is put

-- a row with the same ONU-ID and no other Alloc-ID, with no window open
pub put_shut : (p : PortState) (s : Serial) (old new : Row) → HasRow p.rows s old → new.onu ≡ old.onu → IsSoundRow p.config.alloc_last new → ((a : ℕ) → has_alloc a new ≡ true → has_alloc a old ≡ true) → MayPut (state_closed p) s new
put_shut p s old new has same sound had = record { old = old; has = has; same = same; fits = sound; unused = λ a h. inl (had a h); asked = tt }

pub row_fits : (p : PortState) (s : Serial) (row : Row) → IsSound p → HasRow p.rows s row → IsSoundRow p.config.alloc_last row
row_fits p s row h has = (h.units.each s row has).fits

-- ---- a search window

-- the open window is a search window
abbrev IsSearched : PortState → Type 0
IsSearched p = (rows : Rows) → IsAsked rows p.window

searched : (p : PortState) (w : WindowState) → p.window ≡ Some w → w.grant ≡ Search → IsSearched p
searched p w opened asked rows = subst (λ (o : Option WindowState). IsAsked rows o) (sym opened) (subst (λ (g : Grant). IsAskedBy rows g) (sym asked) tt)

refused_burst : (u : ℕ) (p : PortState) (refusal : Refusal) → IsHeard u p (refuses_burst refusal)
refused_burst u p refusal = does u p _ _ _ _ _ (refl, refl, refl) (tt, tt)

with_room : (u : ℕ) (p : PortState) (response : Response) → (not (has_room p) ≡ false → IsHeard u p response) → IsHeard u p (if_room p response)
with_room u p response done = by_causes (IsHeard u p) refuses_burst (busy_causes p) response (refused_burst u p) (λ none. done none.0)

positive : (u : ℕ) → (u == 0) ≡ false → 0 < u
positive zero h = absurd (eqb-false zero 0 h refl)
positive (suc u) h = omega arith

module _ (u : ℕ) (p : PortState) (h : IsSound p) where
  newcomer : (s : Serial) → is_among s p.config.admitted ≡ true → contains p.disabled s ≡ false → get p.rows s ≡ None → IsHeard u p (newcomer_response u p s)
  newcomer s admitted enabled none =
      by_causes (IsHeard u p) refuses_burst (newcomer_causes u p) (GivesOnu s) (refused_burst u p)
      (λ causes.
      record {
        changes = λ n free. (
          record {
            onu = n;
            new = refl;
            free = free;
            admitted = admitted_contains s p.config.admitted admitted;
            enabled = enabled;
            unknown = none;
            licensed = positive u causes.1.0;
          },
          (room_fits p causes.1.1.0 p.window, tt),
        );
        honest = tt;
        some = free_onu p (not_false (has_free_onu p) causes.0);
      })

  again : (s : Serial) (row : Row) → IsSearched p → HasRow p.rows s row → IsHeard u p (again_response p s row.onu)
  again s row search has =
      by_test (IsHeard u p) (owes_assign p row.onu s) _ _ (λ told. does u p _ _ _ _ _ tt tt)
      (λ untold.
      with_room u p _
      (λ room.
      does u p _ _ _ _ _ tt (
        record {
          old = row;
          has = has;
          same = refl;
          fits = sound_new p.config.alloc_last row.onu (row_fits p s row h has).low;
          unused = λ a none. absurd (has_none row.onu a none);
          asked = search (insert p.rows s (new_row row.onu));
        },
        (room_fits p room p.window, tt),
      )))

  removed : (s : Serial) (row : Row) → HasRow p.rows s row → not (has_room p) ≡ false → MayMakeChanges u p (removal s row.onu)
  removed s row has room = ((row, has, refl), (room_fits p room (window_without p.window row.onu), tt))

  active : (s : Serial) (row : Row) → IsSearched p → HasRow p.rows s row → (phase : Phase) → IsHeard u p (active_response p s row.onu phase)
  active s row search has (Ranging attempts seen) = again s row search has
  active s row search has (Operating eqd dark garbled) = with_room u p _ (λ room. does u p _ _ _ _ _ tt (removed s row has room))

  enabled : (s : Serial) → IsSearched p → is_among s p.config.admitted ≡ true → contains p.disabled s ≡ false → (o : Option Row) → get p.rows s ≡ o → IsHeard u p (enabled_response u p s o)
  enabled s search admitted free None is = newcomer s admitted free is
  enabled s search admitted free (Some row) is = active s row search is row.phase

  in_search : (message : Up) → IsSearched p → IsHeard u p (search_response u p message)
  in_search (SerialNumber octet1 s random flags) search =
      by_causes (IsHeard u p) refuses_burst (search_causes p octet1 s) (admitted_response u p s) (refused_burst u p)
      (λ causes.
      by_test (IsHeard u p) (contains p.disabled s) _ _ (λ disabled. does u p _ _ _ _ _ tt tt)
      (λ free. enabled s search (not_false (is_among s p.config.admitted) causes.1.0) free (get p.rows s) refl))
  in_search message search = refused_burst u p WrongWindow

  -- ---- a ranging window

  measured : (s : Serial) (row : Row) → HasRow p.rows s row → (eqd : Option ℕ) → IsHeard u p (measured_response p s row eqd)
  measured s row has None = does u p _ _ _ _ _ tt (tt, tt)
  measured s row has (Some eqd) =
      with_room u p _
      (λ room.
      does u p _ _ _ _ _ tt
      (tt, (put_shut p s row (row_measured row eqd) has refl (sound_measured p.config.alloc_last row eqd (row_fits p s row h has)) (λ a x. x), (room_fits p room None, tt))))

  in_range : (at : ℕ) (s : Serial) (row : Row) (message : Up) → HasRow p.rows s row → IsHeard u p (ranging_response p at s row message)
  in_range at s row (SerialNumber octet1 told random flags) has =
      by_causes (IsHeard u p) refuses_burst (stranger_causes (same_serial told s)) (measured_response p s row (equalization_delay p.config.teqd at)) (refused_burst u p) (λ causes. measured s row has _)
  in_range at s row (DyingGasp octet1) has = does u p _ _ _ _ _ tt (tt, tt)
  in_range at s row message has = does u p _ _ _ _ _ tt (tt, tt)

  -- ---- a poll window

  module _ (w : WindowState) (opened : p.window ≡ Some w) where
    alive : (s : Serial) (row : Row) → HasRow p.rows s row → (o : Option AlarmKind) → alarm_polled row poll.Good ≡ o → IsHeard u p (alive_response s row o)
    alive s row has None is =
        does u p _ _ _ _ _ tt (tt, (put_shut p s row (row_polled row poll.Good) has refl (sound_polled p.config.alloc_last row poll.Good (row_fits p s row h has) is) (λ a x. x), tt))
    alive s row has (Some kind) is = does u p _ _ _ _ _ tt (tt, ((row, has, refl), (after_window p w h opened, tt)))

    acknowledged : (s : Serial) (row : Row) → HasRow p.rows s row → (o : Option ℕ) → row.pending ≡ o → IsHeard u p (acknowledged_response s row o)
    acknowledged s row has None is = alive s row has (alarm_polled row poll.Good) refl
    acknowledged s row has (Some a) is =
        does u p _ _ _ _ _ tt (
          tt,
          (
            put_shut p s row (row_acknowledged (row_polled row poll.Acked) a) has refl
                (sound_acknowledged p.config.alloc_last (row_polled row poll.Acked) a (sound_acked p.config.alloc_last row (row_fits p s row h has)) is)
                (λ b x. has_acknowledged (row_polled row poll.Acked) a b x),
            tt,
          ),
        )

    in_poll : (s : Serial) (row : Row) (message : Up) → HasRow p.rows s row → IsHeard u p (operating_response s row message)
    in_poll s row (Acknowledge octet1 id copy) has =
        by_test (IsHeard u p) (id == 10) _ _ (λ alloc. acknowledged s row has row.pending refl) (λ other. alive s row has (alarm_polled row poll.Good) refl)
    in_poll s row (DyingGasp octet1) has =
        does u p _ _ _ _ _ tt (tt, (put_shut p s row (row_polled row poll.Gasped) has refl (sound_gasped p.config.alloc_last row (row_fits p s row h has)) (λ a x. x), tt))
    in_poll s row message has = alive s row has (alarm_polled row poll.Good) refl

    -- ---- any window

    directed : (response : Serial → Row → Up → Response) (n : ℕ) (message : Up) → ((s : Serial) (row : Row) → HasRow p.rows s row → IsHeard u p (response s row message))
        → (o : Option (Serial × Row)) → unit_with p.rows n ≡ o → IsHeard u p (directed_response response n message o)
    directed response n message each None is = refused_burst u p WrongWindow
    directed response n message each (Some (s, row)) is =
        by_causes (IsHeard u p) refuses_burst (stranger_causes (octet1_of message == n)) (response s row message) (refused_burst u p) (λ causes. each s row (found p.rows (λ (r : Row). r.onu == n) s row is).0)

    by_grant : (at : ℕ) (g : Grant) (message : Up) → w.grant ≡ g → IsHeard u p (message_response u p at g message)
    by_grant at Search message is = in_search message (searched p w opened is)
    by_grant at (Range n) message is = directed (λ s row m. ranging_response p at s row m) n message (λ s row has. in_range at s row message has) (unit_with p.rows n) refl
    by_grant at (Poll n) message is = directed (λ s row m. operating_response s row m) n message (λ s row has. in_poll s row message has) (unit_with p.rows n) refl

    heard_in : (at : ℕ) (heard : Option Up) → IsHeard u p (heard_response u p at w.grant heard)
    heard_in at None = refused_burst u p Garbled
    heard_in at (Some message) = by_grant at w.grant message refl

  by_window : (at : ℕ) (heard : Option Up) (o : Option WindowState) → p.window ≡ o → IsHeard u p (windowed_response u p at heard o)
  by_window at heard None is = refused_burst u p Stray
  by_window at heard (Some w) is = heard_in w is at heard

  pub proper_burst : (at : ℕ) (heard : Option Up) → IsHeard u p (burst_response u p at heard)
  proper_burst at heard = by_window at heard p.window refl

  -- ---- commands

  refused : (refusal : Refusal) → IsObeyed u p (refuses refusal)
  refused refusal = does u p _ _ _ _ _ (refl, refl, refl) tt

  nothing_pending : (o : Option ℕ) → is_some o ≡ false → o ≡ None
  nothing_pending None is = refl
  nothing_pending (Some a) is = absurd (false≢true (sym is))

  alloc : (s : Serial) (row : Row) → HasRow p.rows s row → IsObeyed u p (alloc_response p s row)
  alloc s row has =
      by_causes (IsObeyed u p) refuses (alloc_causes p row) (GivesAlloc s row) refused
      (λ causes.
      record {
        changes = λ a free. (
          record {
            old = row;
            has = has;
            same = refl;
            fits = sound_with_alloc p.config.alloc_last row a (row_fits p s row h has) (nothing_pending row.pending causes.1.0) causes.1.1.0 free.above free.below (free.unused s row has);
            unused = λ b x.
                ⊎_elim (λ (y : b ≡ a). inr (λ t q its z. false≢true (sym (free.unused t q its) ∙ ap (λ (k : ℕ). has_alloc k q) (sym y) ∙ z))) (λ (y : has_alloc b row ≡ true). inl y)
                (has_with_alloc row a b false x);
            asked = asked_same p.rows s row (row_with_alloc row a) p.window has refl refl h.window.asked;
          },
          (room_fits p causes.1.1.1.1.0 p.window, tt),
        );
        honest = tt;
        some = free_alloc p (not_false (has_free_alloc p) causes.1.1.1.0);
      })

  dealloc : (s : Serial) (a : ℕ) (row : Row) → HasRow p.rows s row → IsObeyed u p (dealloc_response p s a row)
  dealloc s a row has =
      by_causes (IsObeyed u p) refuses (dealloc_causes p row a) _ refused
      (λ causes.
      let holds = not_false (holds_alloc a row) causes.1.1.0 in
      does u p _ _ _ _ _ tt (
        record {
          old = row;
          has = has;
          same = refl;
          fits = sound_releasing p.config.alloc_last row a (row_fits p s row h has) (nothing_pending row.pending causes.1.0) holds;
          unused = λ b x.
              ⊎_elim (λ (y : b ≡ a). inl (subst (λ (k : ℕ). has_alloc k row ≡ true) (sym y) (has_held row a holds))) (λ (y : has_alloc b row ≡ true). inl y) (has_with_alloc row a b true x);
          asked = asked_same p.rows s row (row_releasing row a) p.window has refl refl h.window.asked;
        },
        (room_fits p causes.1.1.1.0 p.window, tt),
      ))

  gone : (s : Serial) → get (remove p.rows s) s ≡ None
  gone s = by_row (get (remove p.rows s) s) refl
    where
      by_row : (o : Option Row) → get (remove p.rows s) s ≡ o → get (remove p.rows s) s ≡ None
      by_row None is = is
      by_row (Some row) is = absurd (itself (has_left p.rows s s row is).0)
        where
          itself : same_serial s s ≡ false → ⊥
          itself e = false≢true (sym e ∙ same_serial-itself s)

  disable : (s : Serial) → is_among s p.config.admitted ≡ true → (o : Option Row) → get p.rows s ≡ o → IsObeyed u p (disable_response p s o)
  disable s admitted None is =
      by_causes (IsObeyed u p) refuses (busy_causes p) _ refused
      (λ causes. does u p _ _ _ _ _ tt ((admitted_contains s p.config.admitted admitted, is), (room_fits p causes.0 p.window, tt)))
  disable s admitted (Some row) is =
      by_causes (IsObeyed u p) refuses (busy_causes p) _ refused
      (λ causes.
      does u p _ _ _ _ _ tt
      ((row, is, refl), ((admitted_contains s p.config.admitted admitted, gone s), (room_fits p causes.0 (window_without p.window row.onu), tt))))

  pub proper_command : (c : Command) → IsObeyed u p (command_response p c)
  proper_command command.Search = by_causes (IsObeyed u p) refuses (searching_causes p) _ refused (λ causes. does u p _ _ _ _ _ tt (tt, tt))
  proper_command (command.Alloc s) = by_active (IsObeyed u p) p s (λ (row : Row). alloc_response p s row) refused (λ row has. alloc s row has)
  proper_command (command.Dealloc s a) = by_active (IsObeyed u p) p s (λ (row : Row). dealloc_response p s a row) refused (λ row has. dealloc s a row has)
  proper_command (command.Deactivate s) =
      by_active (IsObeyed u p) p s (λ (row : Row). deactivate_response p s row) refused
      (λ row has. by_causes (IsObeyed u p) refuses (busy_causes p) _ refused (λ causes. does u p _ _ _ _ _ tt (removed s row has causes.0)))
  proper_command (command.Disable s) = by_unit (IsObeyed u p) p s (λ (o : Option Row). disable_response p s o) refused (λ admitted o is. disable s admitted o is)
  proper_command (command.Enable s) =
      by_unit (IsObeyed u p) p s (λ (o : Option Row). enable_response p s o) refused
      (λ admitted o is. by_causes (IsObeyed u p) refuses (busy_causes p) _ refused (λ causes. does u p _ _ _ _ _ tt (tt, (room_fits p causes.0 p.window, tt))))
  proper_command command.EnableAll = by_causes (IsObeyed u p) refuses (busy_causes p) _ refused (λ causes. does u p _ _ _ _ _ tt (tt, (room_fits p causes.0 p.window, tt)))
  proper_command (command.Popup s) =
      by_active (IsObeyed u p) p s (λ (row : Row). popup_response p row) refused
      (λ row has. by_causes (IsObeyed u p) refuses (popup_causes p row) _ refused (λ causes. does u p _ _ _ _ _ tt (room_fits p causes.1.0 p.window, tt)))
  proper_command command.PopupAll =
      by_causes (IsObeyed u p) refuses (busy_causes p) _ refused (λ causes. does u p _ _ _ _ _ tt (tt, (room_fits p causes.0 (window_unpolled p.window), tt)))
  proper_command (command.Show s) = by_active (IsObeyed u p) p s _ refused (λ row has. does u p _ _ _ _ _ tt tt)
