-- Why a step refuses.
use Rattle.std.proofs.Common.{◌≡◌, ℕ, ◌≤◌, ◌==◌, Bool, true, false, not, List, [], ◌∷◌, Option, None, Some, ◌⊎◌, inl, inr, refl, sym, ap, subst, ◌∙◌, arith}
use Rattle.std.specs.Prelude.{Contains}
use Rattle.std.specs.FinMap.{get}
use Rattle.std.specs.FinSet.{contains}
use Rattle.std.proofs.lemmas.Bool.{cases_Bool, false≢true, eqb-true}
use Rattle.gp_ploam.specs.declared.message.Serial.{Serial}
use Rattle.gp_ploam.specs.declared.message.Up.{Up}
use Rattle.gp_ploam.specs.declared.message.Up.TheVariants.{SerialNumber, DyingGasp, Acknowledge}
use Rattle.gp_ploam.specs.Mask.{mask_value}
use Rattle.gp_ploam.specs.Serials.{same_serial, is_among}
use Rattle.gp_ploam.specs.Up.{octet1_of}
use Rattle.gp_ranging.specs.declared.grant.Grant.{Grant}
use Rattle.gp_ranging.specs.declared.grant.Grant.TheVariants.{Search, Range, Poll}
use Rattle.gp_ranging.specs.Window.{WindowState}
use Rattle.gp_ranging.specs.Delay.{equalization_delay}
use Rattle.gp_alarms.specs.declared.alarm.AlarmKind.{AlarmKind}
use Rattle.gp_alarms.specs.declared.alarm.AlarmKind.TheVariants.{Df}
use Rattle.gp_alarms.specs.declared.poll.Outcome.TheVariants as poll
use Rattle.gp_unit.specs.declared.row.Phase.{Phase}
use Rattle.gp_unit.specs.declared.row.Phase.TheVariants.{Ranging, Operating}
use Rattle.gp_unit.specs.declared.row.Row.{Row}
use Rattle.gp_unit.specs.Rows.{alarm_polled}
use Rattle.gp_machine.specs.declared.answer.Answer.{Answer}
use Rattle.gp_machine.specs.declared.event.Command.{Command}
use Rattle.gp_machine.specs.declared.event.Command.TheVariants as command
use Rattle.gp_machine.specs.declared.event.Event.{Event}
use Rattle.gp_machine.specs.declared.event.Event.TheVariants as event
use Rattle.gp_machine.specs.declared.refusal.Refusal.{Refusal}
use Rattle.gp_machine.specs.declared.refusal.Refusal.TheVariants.{Stray, Garbled, WrongWindow, NotAdmitted, NoId, NoLicence, Busy}
use Rattle.gp_machine.specs.declared.reply.Reply.{Reply}
use Rattle.gp_machine.specs.declared.reply.Reply.TheVariants.{DisabledSeen, Ticked, Refused, Found, Allocated}
use Rattle.gp_machine.specs.State.{PortState, IsFree, has_free_onu, unit_with}
use Rattle.gp_machine.specs.Changes.{StepResult}
use Rattle.gp_machine.specs.Responses.{Response, alarms, Responds, GivesOnu, GivesAlloc, answer_with, unless, busy_causes, has_room}
use Rattle.gp_machine.specs.SearchWindow.{refuses_burst, owes_assign, newcomer_response, again_response, active_response, enabled_response, search_response}
use Rattle.gp_machine.specs.RangeWindow.{stranger_causes, measured_response, ranging_response}
use Rattle.gp_machine.specs.PollWindow.{alive_response, acknowledged_response, operating_response}
use Rattle.gp_machine.specs.Burst.{directed_response, message_response, heard_response, windowed_response, burst_response}
use Rattle.gp_machine.specs.Commands.{refuses, row_response, foreign_causes, unit_response, alloc_causes, alloc_response, dealloc_causes, dealloc_response, deactivate_response, disable_response, enable_response, popup_causes, popup_response, searching_causes, command_response}
use Rattle.gp_machine.specs.Step.{Hears, Step}
use Rattle.gp_machine.specs.OneStep.{HearsOneThing}
use Rattle.gp_machine.proofs.SerialLists.{admitted_contains, not_among}
use Rattle.gp_machine.proofs.FreeNumbers.{free_onu, has_free}
use Rattle.gp_machine.proofs.Walks.{by_test, not_false}
use Rattle.gp_machine.proofs.Determined.{frame_ticks}
use Rattle.gp_laws.specs.Causes.{IsFirstCause, NoCauseHolds, HasFirstCauseOrNone, RefusesForFirstCause, RefusesForNoOtherReason, AsksForOnuId, RefusesForWantOfOnuId, RefusesForWantOfLicence, FindsWhoAsks}

-- ---- lists of causes

pub first_or_none : HasFirstCauseOrNone
first_or_none [] = inr tt
first_or_none ((true, cause) ∷ causes) = inl (cause, inl (refl, refl))
first_or_none ((false, cause) ∷ causes) = by_rest (first_or_none causes)
  where
    by_rest : ((refusal : Refusal) × IsFirstCause causes refusal) ⊎ NoCauseHolds causes
        → ((refusal : Refusal) × IsFirstCause ((false, cause) ∷ causes) refusal) ⊎ NoCauseHolds ((false, cause) ∷ causes)
    by_rest (inl first) = inl (first.0, inr (refl, first.1))
    by_rest (inr none) = inr (refl, none)

pub for_first : RefusesForFirstCause
for_first refuse [] response r first = absurd first
for_first refuse ((true, cause) ∷ causes) response r (inl first) = ap refuse first.1
for_first refuse ((true, cause) ∷ causes) response r (inr later) = absurd (false≢true (sym later.0))
for_first refuse ((false, cause) ∷ causes) response r (inl first) = absurd (false≢true first.0)
for_first refuse ((false, cause) ∷ causes) response r (inr later) = for_first refuse causes response r later.1

pub for_no_other : RefusesForNoOtherReason
for_no_other refuse [] response none = refl
for_no_other refuse ((true, cause) ∷ causes) response none = absurd (false≢true (sym none.0))
for_no_other refuse ((false, cause) ∷ causes) response none = for_no_other refuse causes response none.1

-- ---- what refuses for want of an ONU-ID or of a licence

-- the refusals of a unit that asks for an ONU-ID
abbrev IsWant : Refusal → Type 0
IsWant NoId = Unit {0}
IsWant NoLicence = Unit {0}
IsWant refusal = ⊥

-- a reply that is none of these
abbrev IsOtherReply : Reply → Type 0
IsOtherReply (Refused refusal) = IsWant refusal → ⊥
IsOtherReply reply = Unit {0}

-- a response that has no such reply
abbrev IsOther : Response → Type 0
IsOther (Responds reply grant alarm changes) = IsOtherReply reply
IsOther (GivesOnu s) = Unit {0}
IsOther (GivesAlloc s row) = Unit {0}

-- a response that refuses so
abbrev pub RefusesWith : Refusal → Response → Type 0
RefusesWith r (Responds reply grant alarm changes) = reply ≡ Refused r
RefusesWith r (GivesOnu s) = ⊥
RefusesWith r (GivesAlloc s row) = ⊥

not_other : (r : Refusal) (d : Response) → IsWant r → IsOther d → RefusesWith r d → ⊥
not_other r (Responds reply grant alarm changes) want other is = subst (λ (x : Reply). IsOtherReply x) is other want
not_other r (GivesOnu s) want other is = is
not_other r (GivesAlloc s row) want other is = is

-- no cause of the list is such a refusal
abbrev AreOthers : List (Bool × Refusal) → Type 0
AreOthers [] = Unit {0}
AreOthers ((holds, refusal) ∷ causes) = (IsWant refusal → ⊥) × AreOthers causes

others : (refuse : Refusal → Response) (causes : List (Bool × Refusal)) (d : Response) → ((r : Refusal) → (IsWant r → ⊥) → IsOther (refuse r)) → AreOthers causes → IsOther d → IsOther (unless refuse causes d)
others refuse [] d each h done = done
others refuse ((holds, r) ∷ causes) d each h done =
    by_test IsOther holds (refuse r) (unless refuse causes d) (λ is. each r h.0) (λ isnt. others refuse causes d each h.1 done)

other_burst : (causes : List (Bool × Refusal)) (d : Response) → AreOthers causes → IsOther d → IsOther (unless refuses_burst causes d)
other_burst causes d h done = others refuses_burst causes d (λ r other. other) h done

other_command : (causes : List (Bool × Refusal)) (d : Response) → AreOthers causes → IsOther d → IsOther (unless refuses causes d)
other_command causes d h done = others refuses causes d (λ r other. other) h done

-- what is done where there is room
roomy : (p : PortState) (d : Response) → IsOther d → IsOther (unless refuses_burst (busy_causes p) d)
roomy p d done = other_burst (busy_causes p) d (λ x. x, tt) done

-- ---- a directed window

alive : (s : Serial) (row : Row) (o : Option AlarmKind) → IsOther (alive_response s row o)
alive s row None = tt
alive s row (Some kind) = tt

acknowledged : (s : Serial) (row : Row) (o : Option ℕ) → IsOther (acknowledged_response s row o)
acknowledged s row None = alive s row (alarm_polled row poll.Good)
acknowledged s row (Some a) = tt

in_poll : (s : Serial) (row : Row) (message : Up) → IsOther (operating_response s row message)
in_poll s row (Acknowledge octet1 id copy) = by_test IsOther (id == 10) _ _ (λ alloc. acknowledged s row row.pending) (λ other. alive s row (alarm_polled row poll.Good))
in_poll s row (DyingGasp octet1) = tt
in_poll s row message = alive s row (alarm_polled row poll.Good)

measured : (p : PortState) (s : Serial) (row : Row) (eqd : Option ℕ) → IsOther (measured_response p s row eqd)
measured p s row None = tt
measured p s row (Some eqd) = roomy p _ tt

in_range : (p : PortState) (at : ℕ) (s : Serial) (row : Row) (message : Up) → IsOther (ranging_response p at s row message)
in_range p at s row (SerialNumber octet1 told random flags) = other_burst (stranger_causes (same_serial told s)) _ (λ x. x, tt) (measured p s row (equalization_delay p.config.teqd at))
in_range p at s row (DyingGasp octet1) = tt
in_range p at s row message = tt

directed : (response : Serial → Row → Up → Response) (n : ℕ) (message : Up) (o : Option (Serial × Row)) → ((s : Serial) (row : Row) → IsOther (response s row message)) → IsOther (directed_response response n message o)
directed response n message None each = λ x. x
directed response n message (Some (s, row)) each = other_burst (stranger_causes (octet1_of message == n)) (response s row message) (λ x. x, tt) (each s row)

-- ---- a search window

again : (p : PortState) (s : Serial) (n : ℕ) → IsOther (again_response p s n)
again p s n = by_test IsOther (owes_assign p n s) _ _ (λ told. tt) (λ untold. roomy p _ tt)

active : (p : PortState) (s : Serial) (n : ℕ) (phase : Phase) → IsOther (active_response p s n phase)
active p s n (Ranging attempts seen) = again p s n
active p s n (Operating eqd dark garbled) = roomy p _ tt

-- a newcomer is refused so
record IsAsked (u : ℕ) (p : PortState) (heard : Option Up) (r : Refusal) : Type 0 where
  window : WindowState
  opened : p.window ≡ Some window
  search : window.grant ≡ Search
  serial : Serial
  random : ℕ
  flags : ℕ
  is : heard ≡ Some (SerialNumber 255 serial random flags)
  admitted : is_among serial p.config.admitted ≡ true
  enabled : contains p.disabled serial ≡ false
  inactive : get p.rows serial ≡ None
  refused : RefusesWith r (newcomer_response u p serial)

module _ (u : ℕ) (p : PortState) (r : Refusal) (want : IsWant r) where
  -- where the response refuses so, it is a newcomer's
  abbrev Asks : Option Up → Response → Type 0
  Asks heard d = RefusesWith r d → IsAsked u p heard r

  other : (heard : Option Up) (d : Response) → IsOther d → Asks heard d
  other heard d h is = absurd (not_other r d want h is)

  module _ (w : WindowState) (opened : p.window ≡ Some w) where
    enabled : (s : Serial) (random flags : ℕ) → w.grant ≡ Search → is_among s p.config.admitted ≡ true → contains p.disabled s ≡ false → (o : Option Row) → get p.rows s ≡ o
        → Asks (Some (SerialNumber 255 s random flags)) (enabled_response u p s o)
    enabled s random flags asks admitted free None is = λ refused.
        record {
          window = w;
          opened = opened;
          search = asks;
          serial = s;
          random = random;
          flags = flags;
          is = refl;
          admitted = admitted;
          enabled = free;
          inactive = is;
          refused = refused;
        }
    enabled s random flags asks admitted free (Some row) is = other _ _ (active p s row.onu row.phase)

    in_search : (message : Up) → w.grant ≡ Search → Asks (Some message) (search_response u p message)
    in_search (SerialNumber octet1 s random flags) asks =
        by_test (Asks (Some (SerialNumber octet1 s random flags))) (not (octet1 == 255)) _ _
        (λ wrong. other _ (refuses_burst WrongWindow) (λ x. x))
        (λ right.
        by_test (Asks (Some (SerialNumber octet1 s random flags))) (not (is_among s p.config.admitted)) _ _ (λ foreign. other _ (refuses_burst NotAdmitted) (λ x. x))
        (λ known.
        by_test (Asks (Some (SerialNumber octet1 s random flags))) (contains p.disabled s) _ _ (λ disabled. other _ (alarms DisabledSeen Df s []) tt)
        (λ free.
        subst (λ (k : ℕ). Asks (Some (SerialNumber k s random flags)) (enabled_response u p s (get p.rows s))) (sym (eqb-true octet1 255 (not_false (octet1 == 255) right)))
        (enabled s random flags asks (not_false (is_among s p.config.admitted) known) free (get p.rows s) refl))))
    in_search message asks = other (Some message) (refuses_burst WrongWindow) (λ x. x)

    by_grant : (at : ℕ) (g : Grant) (message : Up) → w.grant ≡ g → Asks (Some message) (message_response u p at g message)
    by_grant at Search message is = in_search message is
    by_grant at (Range n) message is = other _ _ (directed (λ s row m. ranging_response p at s row m) n message (unit_with p.rows n) (λ s row. in_range p at s row message))
    by_grant at (Poll n) message is = other _ _ (directed (λ s row m. operating_response s row m) n message (unit_with p.rows n) (λ s row. in_poll s row message))

    heard_in : (at : ℕ) (heard : Option Up) → Asks heard (heard_response u p at w.grant heard)
    heard_in at None = other None (refuses_burst Garbled) (λ x. x)
    heard_in at (Some message) = by_grant at w.grant message refl

  by_window : (at : ℕ) (heard : Option Up) (o : Option WindowState) → p.window ≡ o → Asks heard (windowed_response u p at heard o)
  by_window at heard None is = other heard (refuses_burst Stray) (λ x. x)
  by_window at heard (Some w) is = heard_in w is at heard

-- ---- commands

by_row : (d : Row → Response) (o : Option Row) → ((row : Row) → IsOther (d row)) → IsOther (row_response d o)
by_row d None each = λ x. x
by_row d (Some row) each = each row

of_unit : (p : PortState) (s : Serial) (d : Option Row → Response) → ((o : Option Row) → IsOther (d o)) → IsOther (unit_response p s d)
of_unit p s d each = other_command (foreign_causes p s) (d (get p.rows s)) (λ x. x, tt) (each (get p.rows s))

of_active : (p : PortState) (s : Serial) (d : Row → Response) → ((row : Row) → IsOther (d row)) → IsOther (unit_response p s (row_response d))
of_active p s d each = of_unit p s (row_response d) (λ o. by_row d o each)

asked_command : (p : PortState) (c : Command) → IsOther (command_response p c)
asked_command p command.Search = other_command (searching_causes p) _ (λ x. x, tt) tt
asked_command p (command.Alloc s) =
    of_active p s (λ row. alloc_response p s row) (λ row. other_command (alloc_causes p row) _ (λ x. x, (λ x. x, (λ x. x, (λ x. x, (λ x. x, tt))))) tt)
asked_command p (command.Dealloc s a) =
    of_active p s (λ row. dealloc_response p s a row) (λ row. other_command (dealloc_causes p row a) _ (λ x. x, (λ x. x, (λ x. x, (λ x. x, tt)))) tt)
asked_command p (command.Deactivate s) = of_active p s (λ row. deactivate_response p s row) (λ row. other_command (busy_causes p) _ (λ x. x, tt) tt)
asked_command p (command.Disable s) = of_unit p s (λ o. disable_response p s o) (λ o. other_command (busy_causes p) _ (λ x. x, tt) tt)
asked_command p (command.Enable s) = of_unit p s (λ o. enable_response p s o) (λ o. other_command (busy_causes p) _ (λ x. x, tt) tt)
asked_command p command.EnableAll = other_command (busy_causes p) _ (λ x. x, tt) tt
asked_command p (command.Popup s) = of_active p s (λ row. popup_response p row) (λ row. other_command (popup_causes p row) _ (λ x. x, (λ x. x, tt)) tt)
asked_command p command.PopupAll = other_command (busy_causes p) _ (λ x. x, tt) tt
asked_command p (command.Show s) = of_active p s _ (λ row. tt)

-- ---- a step

refuses_so : (r : Refusal) (d : Response) (n : ℕ) → (answer_with None d n).reply ≡ Refused r → RefusesWith r d
refuses_so r (Responds reply grant alarm changes) n is = is
refuses_so r (GivesOnu s) n is = absurd (found is)
  where
    found : Found n ≡ Refused r → ⊥
    found e = cc
refuses_so r (GivesAlloc s row) n is = absurd (allocated is)
  where
    allocated : Allocated n ≡ Refused r → ⊥
    allocated e = cc

refused_reply : (r : Refusal) (d : Response) (n : ℕ) → RefusesWith r d → (answer_with None d n).reply ≡ Refused r
refused_reply r (Responds reply grant alarm changes) n is = is
refused_reply r (GivesOnu s) n is = absurd is
refused_reply r (GivesAlloc s row) n is = absurd is

not_ticked : (x : Reply) (r : Refusal) → x ≡ Ticked → x ≡ Refused r → ⊥
not_ticked x r h k = cc

-- the response to the burst of a unit that asks
asking : (u : ℕ) (p : PortState) (at : ℕ) (w : WindowState) (s : Serial) (random flags : ℕ) → p.window ≡ Some w → w.grant ≡ Search → is_among s p.config.admitted ≡ true → contains p.disabled s ≡ false → get p.rows s ≡ None
    → burst_response u p at (Some (SerialNumber 255 s random flags)) ≡ newcomer_response u p s
asking u p at w s random flags opened asks admitted enabled inactive =
    ap (λ (o : Option WindowState). windowed_response u p at (Some (SerialNumber 255 s random flags)) o) opened
    ∙ ap (λ (g : Grant). message_response u p at g (SerialNumber 255 s random flags)) asks
    ∙ rw (admitted, enabled, inactive) refl

-- why a newcomer is refused
no_id : (u : ℕ) (p : PortState) (s : Serial) → RefusesWith NoId (newcomer_response u p s) → has_free_onu p ≡ false
no_id u p s is = by_free (has_free_onu p) refl (u == 0) (has_room p) is
  where
    other_cause : (r : Refusal) → (Refused r ≡ Refused NoId) → r ≡ NoId
    other_cause r e = cc

    by_free : (b : Bool) → has_free_onu p ≡ b → (empty roomy : Bool)
        → RefusesWith NoId (unless refuses_burst ((not b, NoId) ∷ (empty, NoLicence) ∷ (not roomy, Busy) ∷ []) (GivesOnu s)) → has_free_onu p ≡ false
    by_free false at empty roomy e = at
    by_free true at true roomy e = absurd (one e)
      where
        one : Refused NoLicence ≡ Refused NoId → ⊥
        one e = cc
    by_free true at false true e = absurd e
    by_free true at false false e = absurd (one e)
      where
        one : Refused Busy ≡ Refused NoId → ⊥
        one e = cc

no_licence : (u : ℕ) (p : PortState) (s : Serial) → RefusesWith NoLicence (newcomer_response u p s) → (has_free_onu p ≡ true) × (u ≡ 0)
no_licence u p s is = by_free (has_free_onu p) refl (u == 0) refl (has_room p) is
  where
    by_free : (b : Bool) → has_free_onu p ≡ b → (empty : Bool) → (u == 0) ≡ empty → (roomy : Bool)
        → RefusesWith NoLicence (unless refuses_burst ((not b, NoId) ∷ (empty, NoLicence) ∷ (not roomy, Busy) ∷ []) (GivesOnu s)) → (has_free_onu p ≡ true) × (u ≡ 0)
    by_free false at empty spent roomy e = absurd (one e)
      where
        one : Refused NoId ≡ Refused NoLicence → ⊥
        one e = cc
    by_free true at true spent roomy e = (at, eqb-true u 0 spent)
    by_free true at false spent true e = absurd e
    by_free true at false spent false e = absurd (one e)
      where
        one : Refused Busy ≡ Refused NoLicence → ⊥
        one e = cc

among : (s : Serial) (ss : List Serial) → Contains ss s → is_among s ss ≡ true
among s ss h =
    elim (cases_Bool (is_among s ss)) [
      | inl there ↦ there
      | inr foreign ↦ absurd (not_among s ss foreign h)
    ]

-- a step in which a unit asks gives the newcomer's answer, with some number that may be picked
asked_answer : HearsOneThing → (u : ℕ) (p : PortState) (e : Event) (o : StepResult) → Step u p e o → (a : AsksForOnuId p e) → (n : ℕ) × (o.answer ≡ answer_with None (newcomer_response u p a.serial) n)
asked_answer one u p e o step a =
    let burst : Event = event.Burst a.round_trip a.bytes in
    let s = (subst (λ (x : Event). Step u p x o) a.burst step).1 in
    let said : s.response ≡ newcomer_response u p a.serial =
    s.said.2
    ∙ ap (λ (h : Option Up). burst_response u p a.round_trip h) (one (mask_value p.config.mask) a.bytes s.said.0 (Some (SerialNumber 255 a.serial a.random a.flags)) s.said.1 a.heard)
    ∙ asking u p a.round_trip a.window a.serial a.random a.flags a.opened a.search (among a.serial p.config.admitted a.admitted) a.enabled a.inactive in
    (s.picked, ap (λ (x : StepResult). x.answer) s.is ∙ ap (λ (d : Response). answer_with None d s.picked) said)

module _ (one : HearsOneThing) (u : ℕ) (p : PortState) (r : Refusal) (want : IsWant r) where
  -- a step that refuses so: a unit asks, and its newcomer is refused
  asked : (e : Event) (o : StepResult) → Step u p e o → o.answer.reply ≡ Refused r → (a : AsksForOnuId p e) × RefusesWith r (newcomer_response u p a.serial)
  asked event.Frame o step is = absurd (not_ticked o.answer.reply r (frame_ticks u p o step) is)
  asked (event.Command c) o step is =
      let s = step.1 in
      let refused = refuses_so r s.response s.picked (ap (λ (x : StepResult). x.answer.reply) (sym s.is) ∙ is) in
      absurd (not_other r s.response want (subst (λ (d : Response). IsOther d) (sym s.said) (asked_command p c)) refused)
  asked (event.Burst at bytes) o step is =
      let s = step.1 in
      let refused = refuses_so r s.response s.picked (ap (λ (x : StepResult). x.answer.reply) (sym s.is) ∙ is) in
      let a = by_window u p r want at s.said.0 p.window refl (subst (λ (d : Response). RefusesWith r d) s.said.2 refused) in (
        record {
          round_trip = at;
          bytes = bytes;
          burst = refl;
          window = a.window;
          opened = a.opened;
          search = a.search;
          serial = a.serial;
          random = a.random;
          flags = a.flags;
          heard = subst (λ (h : Option Up). Hears (mask_value p.config.mask) bytes h) a.is s.said.1;
          admitted = admitted_contains a.serial p.config.admitted a.admitted;
          enabled = a.enabled;
          inactive = a.inactive;
        },
        a.refused,
      )

  -- and the other way round
  refused : (e : Event) (o : StepResult) → Step u p e o → (a : AsksForOnuId p e) → RefusesWith r (newcomer_response u p a.serial) → o.answer.reply ≡ Refused r
  refused e o step a is =
      let given = asked_answer one u p e o step a in ap (λ (x : Answer). x.reply) given.1 ∙ refused_reply r (newcomer_response u p a.serial) given.0 is

none_free : (p : PortState) → has_free_onu p ≡ false → (n : ℕ) → IsFree p n → ⊥
none_free p none n free = false≢true (sym none ∙ has_free p n free)

not_free : (p : PortState) → ((n : ℕ) → IsFree p n → ⊥) → has_free_onu p ≡ false
not_free p none =
    elim (cases_Bool (has_free_onu p)) [
      | inl is ↦ let some = free_onu p is in absurd (none some.0 some.1)
      | inr isnt ↦ isnt
    ]

wants_id : (u : ℕ) (p : PortState) (s : Serial) → has_free_onu p ≡ false → RefusesWith NoId (newcomer_response u p s)
wants_id u p s none = rw none refl

wants_licence : (u : ℕ) (p : PortState) (s : Serial) → has_free_onu p ≡ true → u ≡ 0 → RefusesWith NoLicence (newcomer_response u p s)
wants_licence u p s some spent = rw (some, spent) refl

pub want_of_onu : HearsOneThing → RefusesForWantOfOnuId
want_of_onu one u p e o step = (
  λ is. let a = asked one u p NoId tt e o step is in (a.0, none_free p (no_id u p a.0.serial a.1)),
  λ h. refused one u p NoId tt e o step h.0 (wants_id u p h.0.serial (not_free p h.1)),
)

pub want_of_licence : HearsOneThing → RefusesForWantOfLicence
want_of_licence one u p e o step = (
  λ is. let a = asked one u p NoLicence tt e o step is in let why = no_licence u p a.0.serial a.1 in (a.0, free_onu p why.0, why.1),
  λ h. refused one u p NoLicence tt e o step h.0 (wants_licence u p h.0.serial (has_free p h.1.0 h.1.1) h.2),
)

no_cause : (u : ℕ) (p : PortState) (s : Serial) → has_free_onu p ≡ true → (u == 0) ≡ false → has_room p ≡ true → newcomer_response u p s ≡ GivesOnu s
no_cause u p s some licensed roomy = rw (some, licensed, roomy) refl

pub finds : HearsOneThing → FindsWhoAsks
finds one u p e o step a some licensed roomy =
    let given = asked_answer one u p e o step a in (
      given.0,
      ap (λ (x : Answer). x.reply) given.1
          ∙ ap (λ (d : Response). (answer_with None d given.0).reply) (no_cause u p a.serial (has_free p some.0 some.1) (positive u licensed) roomy),
    )
  where
    positive : (n : ℕ) → 1 ≤ n → (n == 0) ≡ false
    positive n h =
        elim (cases_Bool (n == 0)) [
          | inl b ↦ let none = eqb-true n 0 b in absurd (omega arith)
          | inr b ↦ b
        ]
