-- What the tables say may be done in a frame.
use Rattle.std.proofs.Common.{◌≡◌, ℕ, zero, suc, ◌+◌, ◌≤◌, ◌==◌, Bool, true, false, length, List, [], ◌∷◌, Option, None, Some, refl, sym, subst, arith, drop}
use Rattle.std.specs.Prelude.{is_none, is_some}
use Rattle.std.specs.FinMap.{get}
use Rattle.std.proofs.lemmas.Bool.{false≢true, eqb-false}
use Rattle.gp_volley.specs.Copies.{first_of}
use Rattle.gp_ploam.specs.declared.message.Serial.{Serial}
use Rattle.gp_ploam.specs.declared.message.Down.{Down}
use Rattle.gp_ranging.specs.declared.grant.Grant.{Grant}
use Rattle.gp_ranging.specs.declared.grant.Grant.TheVariants.{Search, Range, Poll}
use Rattle.gp_ranging.specs.Window.{WindowState}
use Rattle.gp_common.specs.declared.common.Common.{Common}
use Rattle.gp_common.specs.declared.common.Common.TheVariants.{Standby, Acquisition, Measuring}
use Rattle.gp_common.specs.Decision.{decision_of, measurement_of}
use Rattle.gp_alarms.specs.declared.alarm.AlarmKind.{AlarmKind}
use Rattle.gp_alarms.specs.declared.poll.Outcome.{Outcome}
use Rattle.gp_unit.specs.declared.row.Row.{Row}
use Rattle.gp_unit.specs.Rows.{AllocMap, is_operating, row_unranged, row_polled, alarm_polled}
use Rattle.gp_unit.proofs.Kept.{sound_unranged, sound_polled}
use Rattle.gp_machine.specs.State.{PortState, Rows, HasRow, HasUnit, Operates, IsAbove, IsLeast, IsLeastRanging, IsNextPoll, first_or}
use Rattle.gp_machine.specs.Sound.{IsSound, IsAskedBy, HasCyclesLeft, IsLow, copies_at_most}
use Rattle.gp_machine.specs.Changes.{OpensWindow, Enters}
use Rattle.gp_machine.specs.Frame.{state_begun, window_response, decided_response, idle_response, opened_response, frame_response}
use Rattle.gp_machine.specs.Closes.{unranged_response, unpolled_response, poll_ended, close_response, asked_unit}
use Rattle.gp_machine.proofs.Units.{found}
use Rattle.gp_machine.proofs.Walks.{by_test}
use Rattle.gp_machine.proofs.SoundChanges.{HasMore, MayMakeChanges}
use Rattle.gp_machine.proofs.Proper.{IsObeyed, does, fits, put_shut, after_window, row_fits}

-- a unit whose turn it is, is operating
pub next_operates : (rows : Rows) (polled : Option ℕ) (n : ℕ) → IsNextPoll rows polled (Some n) → Operates rows n
next_operates rows polled n next = by_above next.0 next.1 next.2 next.3 next.4
  where
    one : (m : ℕ) → Some n ≡ Some m → m ≡ n
    one m e = cc

    none : ◌≡◌ {A = Option ℕ} (Some n) None → ⊥
    none e = cc

    by_least : (least : Option ℕ) → IsLeast (Operates rows) least → Some n ≡ least → Operates rows n
    by_least None h e = absurd (none e)
    by_least (Some m) h e = subst (λ (k : ℕ). Operates rows k) (one m e) h.0

    by_above : (above least : Option ℕ) → IsLeast (λ onu. Operates rows onu × IsAbove polled onu) above → IsLeast (Operates rows) least → Some n ≡ first_or above least → Operates rows n
    by_above None least h k e = by_least least k e
    by_above (Some m) least h k e = subst (λ (x : ℕ). Operates rows x) (one m e) h.0.0

unit_low : (p : PortState) (test : Row → Bool) (n : ℕ) → IsSound p → HasUnit p.rows test n → n ≤ 253
unit_low p test n h u = subst (λ (k : ℕ). k ≤ 253) u.4 (row_fits p u.0 u.1 h u.2).low

-- q is the state once the frame has begun that p was in
module _ (u : ℕ) (p : PortState) (ranging next : Option ℕ) where
  abbrev q : PortState
  q = state_begun p

  module _ (h : IsSound (state_begun p)) where
    -- ---- a decision

    abbrev Nothing_owed : Type 0
    Nothing_owed = drop 1 p.owed ≡ []

    opens : (c : Common) (g : Grant) → Nothing_owed → HasCyclesLeft c p.config.cycles → IsAskedBy p.rows g → IsLow (elim g [ Search ↦ p.polled | Range n ↦ p.polled | Poll n ↦ Some n ])
        → MayMakeChanges u q (Enters c ∷ OpensWindow g ∷ [])
    opens c Search nothing cycles asked low = (cycles, ((nothing, (asked, low)), tt))
    opens c (Range n) nothing cycles asked low = (cycles, ((nothing, (asked, low)), tt))
    opens c (Poll n) nothing cycles asked low = (cycles, ((nothing, (asked, low)), tt))

    measures : (o : Option ℕ) → Nothing_owed → IsLeastRanging p.rows o → IsObeyed u q (decided_response p (measurement_of o))
    measures None nothing least = does u q _ _ _ _ _ tt (tt, tt)
    measures (Some n) nothing least = does u q _ _ _ _ _ tt (opens Measuring (Range n) nothing tt least.0 h.timing.low)

    polls : (o : Option ℕ) → Nothing_owed → IsNextPoll p.rows p.polled o → IsObeyed u q (decided_response p (decision_of Standby false None o p.config.cycles))
    polls None nothing turn = does u q _ _ _ _ _ tt (tt, tt)
    polls (Some n) nothing turn =
        let operates = next_operates p.rows p.polled n turn in
        does u q _ _ _ _ _ tt (opens Standby (Poll n) nothing tt operates (unit_low q (λ (row : Row). is_operating row.phase) n h operates))

    decides : (c : Common) (wants : Bool) (o turn : Option ℕ) → Nothing_owed → HasCyclesLeft c p.config.cycles → IsLeastRanging p.rows o → IsNextPoll p.rows p.polled turn
        → IsObeyed u q (decided_response p (decision_of c wants o turn p.config.cycles))
    decides Standby true o turn nothing cycles least its_turn =
        does u q _ _ _ _ _ tt (omega arith, (tt, (subst (λ (ms : List Down). length ms + 3 ≤ copies_at_most p.window) (sym nothing) (fits p.window 3 (omega arith)), tt)))
    decides Standby false None turn nothing cycles least its_turn = polls turn nothing its_turn
    decides Standby false (Some n) turn nothing cycles least its_turn = measures (Some n) nothing least
    decides (Acquisition zero) wants o turn nothing cycles least its_turn = measures o nothing least
    decides (Acquisition (suc k)) wants o turn nothing cycles least its_turn = does u q _ _ _ _ _ tt (opens (Acquisition k) Search nothing (omega arith) tt h.timing.low)
    decides Measuring wants o turn nothing cycles least its_turn = measures o nothing least

    none_owed : (ms : List Down) → is_none (first_of ms) ≡ true → drop 1 ms ≡ []
    none_owed [] is = refl
    none_owed (m ∷ ms) is = absurd (false≢true is)

    idle : IsLeastRanging p.rows ranging → IsNextPoll p.rows p.polled next → IsObeyed u q (idle_response p ranging next)
    idle least turn =
        by_test (IsObeyed u q) (is_none (first_of p.owed)) _ _
        (λ nothing. decides p.common (state_begun p).wanted ranging next (none_owed p.owed nothing) h.timing.cycled least turn)
        (λ something. does u q _ _ _ _ _ tt tt)

    -- ---- a window

    module _ (w : WindowState) (opened : p.window ≡ Some w) where
      has_more : (w.left ≡ 1 → ⊥) → HasMore p.window
      has_more more = subst HasMore (sym opened) more

      unranged : (s : Serial) (row : Row) → HasRow p.rows s row → (o : Option Row) → row_unranged row w.seen row.phase ≡ o → IsObeyed u q (unranged_response s row w.seen o)
      unranged s row has None is = does u q _ _ _ _ _ tt (tt, ((row, has, refl), (after_window q w h opened, tt)))
      unranged s row has (Some again) is =
          let still = sound_unranged p.config.alloc_last row again w.seen (row_fits q s row h has) is in
          does u q _ _ _ _ _ tt
          (tt, (put_shut q s row again has still.1.onu still.0 (λ a x. subst (λ (m : AllocMap). Has a m) still.1.allocs x), tt))
        where
          Has : ℕ → AllocMap → Type 0
          Has a m = is_some (get m a) ≡ true

      unpolled : (s : Serial) (row : Row) (ended : Outcome) → HasRow p.rows s row → (o : Option AlarmKind) → alarm_polled row ended ≡ o → IsObeyed u q (unpolled_response s row ended o)
      unpolled s row ended has None is =
          does u q _ _ _ _ _ tt (tt, (put_shut q s row (row_polled row ended) has refl (sound_polled p.config.alloc_last row ended (row_fits q s row h has) is) (λ a x. x), tt))
      unpolled s row ended has (Some kind) is = does u q _ _ _ _ _ tt (tt, ((row, has, refl), (after_window q w h opened, tt)))

      closes : (g : Grant) (o : Option (Serial × Row)) → asked_unit p g ≡ o → IsObeyed u q (close_response w.seen g o)
      closes Search o is = does u q _ _ _ _ _ tt (tt, tt)
      closes (Range n) None is = does u q _ _ _ _ _ tt (tt, tt)
      closes (Poll n) None is = does u q _ _ _ _ _ tt (tt, tt)
      closes (Range n) (Some (s, row)) is = unranged s row (found p.rows (λ (r : Row). r.onu == n) s row is).0 (row_unranged row w.seen row.phase) refl
      closes (Poll n) (Some (s, row)) is =
          unpolled s row (poll_ended w.seen) (found p.rows (λ (r : Row). r.onu == n) s row is).0 (alarm_polled row (poll_ended w.seen)) refl

      in_window : IsObeyed u q (window_response p w)
      in_window =
          by_test (IsObeyed u q) (w.left == 1) _ _ (λ last. closes w.grant (asked_unit p w.grant) refl)
          (λ more. does u q _ _ _ _ _ tt (has_more (eqb-false w.left 1 more), tt))

    by_window : IsLeastRanging p.rows ranging → IsNextPoll p.rows p.polled next → (o : Option WindowState) → p.window ≡ o → IsObeyed u q (opened_response p ranging next o)
    by_window least turn None is = idle least turn
    by_window least turn (Some w) is = in_window w is

pub proper_frame : (u : ℕ) (p : PortState) (ranging next : Option ℕ) → IsSound (state_begun p) → IsLeastRanging p.rows ranging → IsNextPoll p.rows p.polled next → IsObeyed u (state_begun p) (frame_response p ranging next)
proper_frame u p ranging next h least turn = by_window u p ranging next h least turn p.window refl
