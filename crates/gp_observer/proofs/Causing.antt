-- What is owed by a burst or a command, by what was heard: an ONU-ID is assigned to who asked, a unit is ranged that
-- answered, and no unit in a ranging window is moved.
use Rattle.std.proofs.Common.{◌≡◌, ℕ, ◌+◌, ◌-◌, ◌≤◌, ◌==◌, Bool, true, false, cond, ◌&&◌, ◌||◌, List, [], ◌∷◌, Option, None, Some, ◌⊎◌, inl, inr, refl, sym, ap, subst, ◌∙◌, arith, eq-eqb}
use Rattle.std.specs.Prelude.{nat_lt, option_map}
use Rattle.std.specs.FinMap.{get}
use Rattle.std.specs.FinSet.{contains}
use Rattle.std.proofs.lemmas.Bool.{cases_Bool, false≢true, ne_eqb, eqb-true, ltb-false}
use Rattle.gp_ploam.specs.declared.message.Serial.{Serial}
use Rattle.gp_ploam.specs.declared.message.Down.{Down}
use Rattle.gp_ploam.specs.declared.message.Down.TheVariants.{AssignOnu, Deactivate}
use Rattle.gp_ploam.specs.declared.message.Up.{Up}
use Rattle.gp_ploam.specs.declared.message.Up.TheVariants.{SerialNumber, DyingGasp, Acknowledge}
use Rattle.gp_ploam.specs.Serials.{same_serial}
use Rattle.gp_ploam.specs.Up.{octet1_of}
use Rattle.gp_ploam.proofs.Serials.{same_serial-true}
use Rattle.gp_ranging.specs.declared.grant.Grant.{Grant}
use Rattle.gp_ranging.specs.declared.grant.Grant.TheVariants.{Search, Range, Poll}
use Rattle.gp_ranging.specs.Window.{WindowState, fresh_window, marked_window}
use Rattle.gp_ranging.specs.Delay.{equalization_delay}
use Rattle.gp_alarms.specs.declared.alarm.AlarmKind.{AlarmKind}
use Rattle.gp_alarms.specs.declared.alarm.AlarmKind.TheVariants.{Df}
use Rattle.gp_alarms.specs.declared.poll.Outcome.TheVariants as poll
use Rattle.gp_unit.specs.declared.row.Phase.{Phase}
use Rattle.gp_unit.specs.declared.row.Phase.TheVariants.{Ranging, Operating}
use Rattle.gp_unit.specs.declared.row.Row.{Row}
use Rattle.gp_unit.specs.Rows.{alarm_polled}
use Rattle.gp_machine.specs.declared.event.Command.{Command}
use Rattle.gp_machine.specs.declared.event.Command.TheVariants as command
use Rattle.gp_machine.specs.declared.refusal.Refusal.{Refusal}
use Rattle.gp_machine.specs.declared.refusal.Refusal.TheVariants.{Stray, Garbled, WrongWindow}
use Rattle.gp_machine.specs.declared.reply.Reply.TheVariants.{DisabledSeen}
use Rattle.gp_machine.specs.State.{PortState, HasRow, unit_with}
use Rattle.gp_machine.specs.Sound.{IsSound}
use Rattle.gp_machine.specs.Changes.{Change, state_after, owed_by, asks_unit, window_without, is_poll, window_unpolled}
use Rattle.gp_machine.specs.Responses.{Response, Responds, GivesOnu, GivesAlloc, MayPick, changes_with, alarms, busy_causes}
use Rattle.gp_machine.specs.SearchWindow.{refuses_burst, if_room, newcomer_causes, search_causes, owes_assign, newcomer_response, again_response, active_response, enabled_response, admitted_response, search_response}
use Rattle.gp_machine.specs.RangeWindow.{stranger_causes, measured_response, ranging_response}
use Rattle.gp_machine.specs.PollWindow.{alive_response, acknowledged_response, operating_response}
use Rattle.gp_machine.specs.Burst.{directed_response, message_response, heard_response, windowed_response, burst_response}
use Rattle.gp_machine.specs.Commands.{refuses, searching_causes, alloc_causes, dealloc_causes, popup_causes, alloc_response, dealloc_response, disable_response, popup_response, command_response, deactivate_response, enable_response}
use Rattle.gp_machine.proofs.Units.{found, one_row, not_none}
use Rattle.gp_machine.proofs.Walks.{by_test, not_false, by_causes, by_unit, by_active}
use Rattle.gp_observer.specs.Observer.{Observed, some_passes, is_of}
use Rattle.gp_observer.specs.Knows.{IsKnown}
use Rattle.gp_observer.proofs.Asking.{assigns, one_if}
use Rattle.gp_observer.proofs.Answering.{Unmoved, AreOwed}

-- ---- what is true of a response

-- the window is for ranging the unit with this ONU-ID
abbrev pub RangesAt : Grant → ℕ → Type 0
RangesAt Search n = ⊥
RangesAt (Range m) n = m ≡ n
RangesAt (Poll m) n = ⊥

abbrev pub IsRangingWindow : Option WindowState → ℕ → Type 0
IsRangingWindow None n = ⊥
IsRangingWindow (Some w) n = RangesAt w.grant n

-- the serial number asks with the burst that is heard
abbrev pub asks_in : Option Up → Serial → Bool
asks_in (Some (SerialNumber k s random flags)) t = k == 255 && same_serial t s
asks_in _ t = false

-- the unit with this ONU-ID answers in its ranging window, and its delay leaves this one
pub record IsMeasured (p : PortState) (at : ℕ) (heard : Option Up) (n eqd : ℕ) : Type 0 where
  pub octet1 : ℕ
  pub told : Serial
  pub random : ℕ
  pub flags : ℕ
  pub row : Row
  pub burst : heard ≡ Some (SerialNumber octet1 told random flags)
  pub own : octet1 ≡ n
  pub has : HasRow p.rows told row
  pub its : row.onu ≡ n
  pub sum : at + eqd ≡ p.config.teqd
  pub window : IsRangingWindow p.window n

abbrev pub grant_of : Response → Option Grant
grant_of (Responds reply grant alarm changes) = grant
grant_of (GivesOnu s) = None
grant_of (GivesAlloc s row) = None

pub record Causes (p start : PortState) (Ok : ℕ → ℕ → Type 0) (asked : Serial → Bool) (seen : Observed) (grant : Option Grant) (cs : List Change) : Type 0 where
  -- who is assigned an ONU-ID asked, once each
  pub few : (t : Serial) → assigns t (owed_by cs) ≤ one_if (asked t)
  -- who is ranged answered
  pub owed : AreOwed Ok seen (owed_by cs)
  -- a ranging window that is open opened with nothing owed, or was open, and what is owed doesn't move its unit
  pub leaves : (n : ℕ) → IsRangingWindow (state_after start cs).window n → ((p.owed ≡ []) × (owed_by cs ≡ [])) ⊎ (IsRangingWindow p.window n × Unmoved seen n (owed_by cs))
  -- what is granted is granted with nothing owed, and its window opens
  pub grants : (g : Grant) → grant ≡ Some g → (p.owed ≡ []) × (owed_by cs ≡ []) × ((state_after start cs).window ≡ Some (fresh_window g)) × ((state_after start cs).rows ≡ p.rows)

pub no_grant : (g : Grant) → ◌≡◌ {A = Option Grant} None (Some g) → ⊥
no_grant g h = cc

least : (n : ℕ) → 0 ≤ n
least n = omega arith

marked : (o : Option WindowState) (n : ℕ) → IsRangingWindow (option_map marked_window o) n → IsRangingWindow o n
marked None n h = h
marked (Some w) n h = h

-- a window that is left open after a removal asks another unit
pub left_open : (o : Option WindowState) (m n : ℕ) → IsRangingWindow (window_without o m) n → IsRangingWindow o n × ((n == m) ≡ false)
left_open None m n h = absurd h
left_open (Some w) m n h = by_open (asks_unit w.grant m) refl h
  where
    not_own : (g : Grant) → RangesAt g n → asks_unit g m ≡ false → (n == m) ≡ false
    not_own Search own is = absurd own
    not_own (Range k) own is = sym (ap (λ x. x == m) own) ∙ is
    not_own (Poll k) own is = absurd own

    by_open : (b : Bool) → asks_unit w.grant m ≡ b → IsRangingWindow (cond b None (Some w)) n → RangesAt w.grant n × ((n == m) ≡ false)
    by_open true is e = absurd e
    by_open false is e = (e, not_own w.grant e is)

-- one that is left open by POPUP was open
unpolled : (o : Option WindowState) (n : ℕ) → IsRangingWindow (window_unpolled o) n → IsRangingWindow o n
unpolled None n h = h
unpolled (Some w) n h = by_poll (is_poll w.grant) h
  where
    by_poll : (b : Bool) → IsRangingWindow (cond b None (Some w)) n → RangesAt w.grant n
    by_poll true e = absurd e
    by_poll false e = e

module _ (p : PortState) (sound : IsSound p) (seen : Observed) (is : IsKnown p.rows p.disabled seen) (at : ℕ) (heard : Option Up) where
  -- a burst, or a command with none
  abbrev pub IsCaused : Response → Type 0
  IsCaused d = (k : ℕ) → MayPick p d k → Causes p p (IsMeasured p at heard) (asks_in heard) seen (grant_of d) (changes_with d k)

  -- nothing is owed
  quiet : (cs : List Change) → owed_by cs ≡ [] → ((n : ℕ) → IsRangingWindow (state_after p cs).window n → IsRangingWindow p.window n) → Causes p p (IsMeasured p at heard) (asks_in heard) seen None cs
  quiet cs none stays =
      record {
        few = λ t. subst (λ (ms : List Down). assigns t ms ≤ one_if (asks_in heard t)) (sym none) (least (one_if (asks_in heard t)));
        owed = subst (λ (ms : List Down). AreOwed (IsMeasured p at heard) seen ms) (sym none) tt;
        leaves = λ n asks. inr (stays n asks, subst (λ (ms : List Down). Unmoved seen n ms) (sym none) tt);
        grants = λ g e. absurd (no_grant g e);
      }

  -- a message is owed that assigns and ranges nobody
  other : (cs : List Change) → ((t : Serial) → assigns t (owed_by cs) ≡ 0) → AreOwed (IsMeasured p at heard) seen (owed_by cs) → ((n : ℕ) → IsRangingWindow (state_after p cs).window n → IsRangingWindow p.window n × Unmoved seen n (owed_by cs))
      → Causes p p (IsMeasured p at heard) (asks_in heard) seen None cs
  other cs none owed stays =
      record {
        few = λ t. let e = none t in omega arith;
        owed = owed;
        leaves = λ n asks. inr (stays n asks);
        grants = λ g e. absurd (no_grant g e);
      }

  low : (s : Serial) (row : Row) → HasRow p.rows s row → (row.onu == 255) ≡ false
  low s row has = let small = (sound.units.each s row has).fits.low in ne_eqb row.onu 255 (λ e. omega (arith, small, e))

  -- a removed unit is another than one that is still asked
  removed : (s : Serial) (row : Row) → HasRow p.rows s row → (n : ℕ) → IsRangingWindow (window_without p.window row.onu) n → IsRangingWindow p.window n × Unmoved seen n (Deactivate row.onu ∷ [])
  removed s row has n asks =
      let stays = left_open p.window row.onu n asks in
      (stays.0, (ap (λ b. b || n == row.onu) (low s row has) ∙ stays.1, tt))

  -- ---- a search window

  refused_burst : (refusal : Refusal) → IsCaused (refuses_burst refusal)
  refused_burst refusal = λ k may. quiet _ refl (λ n asks. marked p.window n asks)

  with_room : (d : Response) → IsCaused d → IsCaused (if_room p d)
  with_room d done = by_causes IsCaused refuses_burst (busy_causes p) d refused_burst (λ none. done)

  module _ (s : Serial) (own : (t : Serial) → asks_in heard t ≡ same_serial t s) (closed : (n : ℕ) → IsRangingWindow p.window n → ⊥) where
    assigned : (t : Serial) (n : ℕ) → assigns t (AssignOnu n s ∷ []) ≤ one_if (asks_in heard t)
    assigned t n = let e = ap one_if (own t) in omega arith

    newcomer : (u : ℕ) → IsCaused (newcomer_response u p s)
    newcomer u =
        by_causes IsCaused refuses_burst (newcomer_causes u p) (GivesOnu s) refused_burst
        (λ causes n free. record { few = λ t. assigned t n; owed = (tt, tt); leaves = λ k asks. absurd (closed k asks); grants = λ g e. absurd (no_grant g e) })

    again : (row : Row) → IsCaused (again_response p s row.onu)
    again row =
        by_test IsCaused (owes_assign p row.onu s) _ _ (λ told k may. quiet _ refl (λ n asks. asks))
        (λ untold. with_room _ (λ k may. record { few = λ t. assigned t row.onu; owed = (tt, tt); leaves = λ n asks. absurd (closed n asks); grants = λ g e. absurd (no_grant g e) }))

    active : (row : Row) → HasRow p.rows s row → (phase : Phase) → IsCaused (active_response p s row.onu phase)
    active row has (Ranging attempts heard) = again row
    active row has (Operating eqd dark garbled) = with_room _ (λ k may. other _ (λ t. refl) (tt, tt) (λ n asks. removed s row has n asks))

    enabled : (u : ℕ) → (o : Option Row) → get p.rows s ≡ o → IsCaused (enabled_response u p s o)
    enabled u None none = newcomer u
    enabled u (Some row) has = active row has row.phase

    admitted : (u : ℕ) → IsCaused (admitted_response u p s)
    admitted u =
        by_test IsCaused (contains p.disabled s) (alarms DisabledSeen Df s []) (enabled_response u p s (get p.rows s)) (λ disabled k may. quiet _ refl (λ n asks. asks))
        (λ free. enabled u (get p.rows s) refl)

  in_search : (u : ℕ) (message : Up) → heard ≡ Some message → ((n : ℕ) → IsRangingWindow p.window n → ⊥) → IsCaused (search_response u p message)
  in_search u (SerialNumber octet1 s random flags) its closed =
      by_causes IsCaused refuses_burst (search_causes p octet1 s) (admitted_response u p s) refused_burst
      (λ causes. admitted s (λ t. ap (λ (x : Option Up). asks_in x t) its ∙ ap (λ b. b && same_serial t s) (not_false (octet1 == 255) causes.0)) closed u)
  in_search u message its closed = refused_burst WrongWindow

  -- ---- a ranging window

  left_sum : (teqd eqd : ℕ) → equalization_delay teqd at ≡ Some eqd → at + eqd ≡ teqd
  left_sum teqd eqd h = by_far (nat_lt teqd at) refl h
    where
      none_eqd : ◌≡◌ {A = Option ℕ} None (Some eqd) → ⊥
      none_eqd e = cc

      one_eqd : Some (teqd - at) ≡ Some eqd → teqd - at ≡ eqd
      one_eqd e = cc

      by_far : (b : Bool) → nat_lt teqd at ≡ b → cond b None (Some (teqd - at)) ≡ Some eqd → at + eqd ≡ teqd
      by_far true is e = absurd (none_eqd e)
      by_far false is e = let least = ltb-false teqd at is in let same = one_eqd e in omega arith

  measured : (s : Serial) (row : Row) → ((eqd : ℕ) → at + eqd ≡ p.config.teqd → IsMeasured p at heard row.onu eqd) → (o : Option ℕ) → ((eqd : ℕ) → o ≡ Some eqd → at + eqd ≡ p.config.teqd) → IsCaused (measured_response p s row o)
  measured s row its None sum = λ k may. quiet _ refl (λ n asks. marked p.window n asks)
  measured s row its (Some eqd) sum = with_room _ (λ k may. other _ (λ t. refl) (its eqd (sum eqd refl), tt) (λ n asks. absurd asks))

  in_range : (n : ℕ) (s : Serial) (row : Row) (message : Up) → heard ≡ Some message → IsRangingWindow p.window n → HasRow p.rows s row → row.onu ≡ n → octet1_of message ≡ n → IsCaused (ranging_response p at s row message)
  in_range n s row (SerialNumber octet1 told random flags) its asked has own octet =
      by_causes IsCaused refuses_burst (stranger_causes (same_serial told s)) (measured_response p s row (equalization_delay p.config.teqd at)) refused_burst
      (λ causes.
      let same : told ≡ s = same_serial-true told s (not_false (same_serial told s) causes.0) in
      measured s row
      (λ eqd sum.
      record {
        octet1 = octet1;
        told = told;
        random = random;
        flags = flags;
        row = row;
        burst = its;
        own = octet ∙ sym own;
        has = ap (get p.rows) same ∙ has;
        its = refl;
        sum = sum;
        window = subst (λ k. IsRangingWindow p.window k) (sym own) asked;
      })
      (equalization_delay p.config.teqd at) (λ eqd e. left_sum p.config.teqd eqd e))
  in_range n s row (DyingGasp octet1) its asked has own octet = λ k may. quiet _ refl (λ m asks. marked p.window m asks)
  in_range n s row message its asked has own octet = λ k may. quiet _ refl (λ m asks. marked p.window m asks)

  -- ---- a poll window

  alive : (s : Serial) (row : Row) → (o : Option AlarmKind) → IsCaused (alive_response s row o)
  alive s row None = λ k may. quiet _ refl (λ n asks. absurd asks)
  alive s row (Some kind) = λ k may. other _ (λ t. refl) (tt, tt) (λ n asks. absurd asks)

  acknowledged : (s : Serial) (row : Row) → (o : Option ℕ) → IsCaused (acknowledged_response s row o)
  acknowledged s row None = alive s row (alarm_polled row poll.Good)
  acknowledged s row (Some a) = λ k may. quiet _ refl (λ n asks. absurd asks)

  in_poll : (s : Serial) (row : Row) (message : Up) → IsCaused (operating_response s row message)
  in_poll s row (Acknowledge octet1 id copy) = by_test IsCaused (id == 10) _ _ (λ alloc. acknowledged s row row.pending) (λ other. alive s row (alarm_polled row poll.Good))
  in_poll s row (DyingGasp octet1) = λ k may. quiet _ refl (λ n asks. absurd asks)
  in_poll s row message = alive s row (alarm_polled row poll.Good)

  -- ---- any window

  directed : (response : Serial → Row → Up → Response) (n : ℕ) (message : Up) → ((s : Serial) (row : Row) → HasRow p.rows s row → row.onu ≡ n → octet1_of message ≡ n → IsCaused (response s row message))
      → (o : Option (Serial × Row)) → unit_with p.rows n ≡ o → IsCaused (directed_response response n message o)
  directed response n message each None none = refused_burst WrongWindow
  directed response n message each (Some (s, row)) there =
      by_causes IsCaused refuses_burst (stranger_causes (octet1_of message == n)) (response s row message) refused_burst
      (λ causes. let it = found p.rows (λ (r : Row). r.onu == n) s row there in each s row it.0 (eqb-true row.onu n it.1) (eqb-true (octet1_of message) n (not_false (octet1_of message == n) causes.0)))

  by_grant : (u : ℕ) (g : Grant) (message : Up) → heard ≡ Some message → ((n : ℕ) → IsRangingWindow p.window n → RangesAt g n) → ((n : ℕ) → RangesAt g n → IsRangingWindow p.window n) → IsCaused (message_response u p at g message)
  by_grant u Search message its forth back = in_search u message its (λ n asks. forth n asks)
  by_grant u (Range n) message its forth back = directed (λ s row m. ranging_response p at s row m) n message (λ s row has own octet. in_range n s row message its (back n refl) has own octet) (unit_with p.rows n) refl
  by_grant u (Poll n) message its forth back = directed (λ s row m. operating_response s row m) n message (λ s row has own octet. in_poll s row message) (unit_with p.rows n) refl

  heard_in : (u : ℕ) (g : Grant) (o : Option Up) → heard ≡ o → ((n : ℕ) → IsRangingWindow p.window n → RangesAt g n) → ((n : ℕ) → RangesAt g n → IsRangingWindow p.window n) → IsCaused (heard_response u p at g o)
  heard_in u g None its forth back = refused_burst Garbled
  heard_in u g (Some message) its forth back = by_grant u g message its forth back

  by_window : (u : ℕ) (o : Option WindowState) → p.window ≡ o → IsCaused (windowed_response u p at heard o)
  by_window u None stays = refused_burst Stray
  by_window u (Some w) stays = heard_in u w.grant heard refl (λ n asks. subst (λ (x : Option WindowState). IsRangingWindow x n) stays asks) (λ n asks. subst (λ (x : Option WindowState). IsRangingWindow x n) (sym stays) asks)

  pub caused_burst : (u : ℕ) → IsCaused (burst_response u p at heard)
  caused_burst u = by_window u p.window refl

  -- ---- commands

  refused : (refusal : Refusal) → IsCaused (refuses refusal)
  refused refusal = λ k may. quiet _ refl (λ n asks. asks)

  alloc : (s : Serial) (row : Row) → IsCaused (alloc_response p s row)
  alloc s row = by_causes IsCaused refuses (alloc_causes p row) (GivesAlloc s row) refused (λ causes k may. other _ (λ t. refl) (tt, tt) (λ n asks. (asks, (refl, tt))))

  dealloc : (s : Serial) (a : ℕ) (row : Row) → IsCaused (dealloc_response p s a row)
  dealloc s a row = by_causes IsCaused refuses (dealloc_causes p row a) _ refused (λ causes k may. other _ (λ t. refl) (tt, tt) (λ n asks. (asks, (refl, tt))))

  -- a serial number holds no other ONU-ID than its unit's
  holds_no_other : (s : Serial) (n : ℕ) → ((row : Row) → HasRow p.rows s row → row.onu ≡ n → ⊥) → is_of seen s n ≡ false
  holds_no_other s n none = by_holder (get seen.holder n) refl
    where
      by_holder : (o : Option Serial) → get seen.holder n ≡ o → some_passes (λ h. same_serial s h) o ≡ false
      by_holder None at = refl
      by_holder (Some t) at =
          elim (cases_Bool (same_serial s t)) [
            | inl b ↦
                let u = (is.holder n t).0 at in
                absurd (none u.1 (ap (get p.rows) (same_serial-true s t b ∙ sym u.3.0) ∙ u.2) u.3.1)
            | inr b ↦ b
          ]

  disable : (s : Serial) (o : Option Row) → get p.rows s ≡ o → IsCaused (disable_response p s o)
  disable s None none =
      by_causes IsCaused refuses (busy_causes p) _ refused
      (λ causes k may. other _ (λ t. refl) (tt, tt) (λ n asks. (asks, (holds_no_other s n (λ row has own. not_none row (sym none ∙ has)), tt))))
  disable s (Some row) has =
      by_causes IsCaused refuses (busy_causes p) _ refused
      (λ causes k may.
      other _ (λ t. refl) (tt, tt)
      (λ n asks.
      let stays = left_open p.window row.onu n asks in
      (stays.0, (holds_no_other s n (λ q its own. own_differs row q n has its own stays.1), tt))))
    where
      own_differs : (row q : Row) (n : ℕ) → HasRow p.rows s row → HasRow p.rows s q → q.onu ≡ n → (n == row.onu) ≡ false → ⊥
      own_differs row q n has its own other = false≢true (sym other ∙ ap (λ x. x == row.onu) (sym own ∙ ap (λ (r : Row). r.onu) (one_row q row (sym its ∙ has))) ∙ eq-eqb row.onu row.onu refl)

  pub caused_command : (c : Command) → IsCaused (command_response p c)
  caused_command command.Search = by_causes IsCaused refuses (searching_causes p) _ refused (λ causes k may. quiet _ refl (λ n asks. asks))
  caused_command (command.Alloc s) = by_active IsCaused p s (λ (row : Row). alloc_response p s row) refused (λ row has. alloc s row)
  caused_command (command.Dealloc s a) = by_active IsCaused p s (λ (row : Row). dealloc_response p s a row) refused (λ row has. dealloc s a row)
  caused_command (command.Deactivate s) =
      by_active IsCaused p s (λ (row : Row). deactivate_response p s row) refused
      (λ row has. by_causes IsCaused refuses (busy_causes p) _ refused (λ causes k may. other _ (λ t. refl) (tt, tt) (λ n asks. removed s row has n asks)))
  caused_command (command.Disable s) = by_unit IsCaused p s (λ (o : Option Row). disable_response p s o) refused (λ admitted o there. disable s o there)
  caused_command (command.Enable s) =
      by_unit IsCaused p s (λ (o : Option Row). enable_response p s o) refused
      (λ admitted o there. by_causes IsCaused refuses (busy_causes p) _ refused (λ causes k may. other _ (λ t. refl) (tt, tt) (λ n asks. (asks, (refl, tt)))))
  caused_command command.EnableAll = by_causes IsCaused refuses (busy_causes p) _ refused (λ causes k may. other _ (λ t. refl) (tt, tt) (λ n asks. (asks, (refl, tt))))
  caused_command (command.Popup s) =
      by_active IsCaused p s (λ (row : Row). popup_response p row) refused
      (λ row has. by_causes IsCaused refuses (popup_causes p row) _ refused (λ causes k may. other _ (λ t. refl) (tt, tt) (λ n asks. (asks, (refl, tt)))))
  caused_command command.PopupAll = by_causes IsCaused refuses (busy_causes p) _ refused (λ causes k may. other _ (λ t. refl) (tt, tt) (λ n asks. (unpolled p.window n asks, (refl, tt))))
  caused_command (command.Show s) = by_active IsCaused p s _ refused (λ row has k may. quiet _ refl (λ n asks. asks))
