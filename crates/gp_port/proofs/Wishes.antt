-- The wished number is the one that is handed out.
use Rattle.std.proofs.Common.{◌≡◌, ℕ, ◌==◌, Bool, true, false, Option, None, Some, List, [], ◌∷◌, ◌++◌, refl, sym, ap, subst, ◌∙◌}
use Rattle.gp_ploam.specs.declared.message.Serial.{Serial}
use Rattle.gp_ploam.specs.declared.message.Down.{Down}
use Rattle.gp_ploam.specs.declared.message.Down.TheVariants.{AssignOnu, AssignAlloc, RangingTime, DisableSerial, EnableSerial, EnableAll, Popup}
use Rattle.gp_ploam.specs.declared.message.Up.{Up}
use Rattle.gp_ploam.specs.declared.message.Up.TheVariants as up
use Rattle.gp_ploam.specs.Up.{octet1_of}
use Rattle.gp_ploam.specs.Serials.{same_serial}
use Rattle.gp_ploam.specs.Mask.{mask_value}
use Rattle.gp_ranging.specs.Delay.{equalization_delay}
use Rattle.gp_ranging.specs.Window.{WindowState}
use Rattle.gp_ranging.specs.declared.grant.Grant.{Grant}
use Rattle.gp_ranging.specs.declared.grant.Grant.TheVariants.{Range, Poll}
use Rattle.gp_alarms.specs.declared.alarm.AlarmKind.{AlarmKind}
use Rattle.gp_alarms.specs.declared.poll.Outcome.TheVariants as poll
use Rattle.gp_unit.specs.declared.row.Phase.{Phase}
use Rattle.gp_unit.specs.declared.row.Phase.TheVariants.{Ranging, Operating}
use Rattle.gp_unit.specs.declared.row.Row.{Row}
use Rattle.gp_unit.specs.Rows.{alarm_polled, is_operating, new_row, row_measured, row_releasing}
use Rattle.gp_machine.specs.declared.event.Event.TheVariants as event
use Rattle.gp_machine.specs.declared.event.Command.{Command}
use Rattle.gp_machine.specs.declared.event.Command.TheVariants as command
use Rattle.gp_machine.specs.declared.refusal.Refusal.{Refusal}
use Rattle.gp_machine.specs.declared.reply.Reply.TheVariants.{Ranged, Repeat, Again, Restarted, Searching, Releasing, Deactivated, Disabled, Enabled, EnabledAll, PoppedUp, PoppedUpAll, Shown}
use Rattle.gp_machine.specs.State.{PortState, count_rows, unit_with}
use Rattle.gp_machine.specs.Changes.{StepResult, ClosesWindow, SetsRow, Owes, Wants, Disables, Enables, EnablesAll, PopsUpAll}
use Rattle.gp_machine.specs.Responses.{Response, Responds, GivesOnu, GivesAlloc, MayPick, answer_with, busy_causes, removal, replies, step_result_with, unless}
use Rattle.gp_machine.specs.SearchWindow.{active_response, if_room, owes_assign, refuses_burst}
use Rattle.gp_machine.specs.RangeWindow.{measured_response, ranging_response, stranger_causes}
use Rattle.gp_machine.specs.PollWindow.{alive_response, acknowledged_response, operating_response}
use Rattle.gp_machine.specs.Burst.{burst_response, directed_response, heard_response, message_response, windowed_response}
use Rattle.gp_machine.specs.Commands.{command_response, dealloc_causes, dealloc_response, deactivate_response, disable_response, enable_response, popup_causes, popup_response, refuses, removed_if, searching_causes}
use Rattle.gp_machine.specs.Step.{Hears, Step}
use Rattle.gp_machine.specs.OneStep.{HearsOneThing, IsDetermined}
use Rattle.gp_machine.proofs.Determined.{frame_ticks}
use Rattle.gp_machine.proofs.Walks.{by_active, by_causes, by_test, by_unit}
use Rattle.gp_port.specs.Numbers.{GrantsWish, HandsOut, PicksWished}

-- ---- responses that give no number

-- nothing is picked
abbrev pub PicksNothing : Response → Type 0
PicksNothing (Responds reply grant alarm changes) = Unit {0}
PicksNothing (GivesOnu serial) = ⊥
PicksNothing (GivesAlloc serial row) = ⊥

pub no_wish : (p : PortState) (d : Response) (wished : Option ℕ) (n : ℕ) → PicksNothing d → PicksWished p d wished n
no_wish p (Responds reply grant alarm changes) wished n h = tt
no_wish p (GivesOnu serial) wished n h = absurd h
no_wish p (GivesAlloc serial row) wished n h = absurd h

-- a burst with these causes to be refused
plain : (causes : List (Bool × Refusal)) (d : Response) → PicksNothing d → PicksNothing (unless refuses_burst causes d)
plain causes d h = by_causes PicksNothing refuses_burst causes d (λ r. tt) (λ none. h)

measured_gives : (p : PortState) (s : Serial) (row : Row) (o : Option ℕ) → PicksNothing (measured_response p s row o)
measured_gives p s row None = tt
measured_gives p s row (Some eqd) =
    plain (busy_causes p) (replies (Ranged row.onu eqd) (ClosesWindow ∷ SetsRow s (row_measured row eqd) ∷ Owes (RangingTime row.onu eqd) ∷ [])) tt

ranging_gives : (p : PortState) (at : ℕ) (s : Serial) (row : Row) (m : Up) → PicksNothing (ranging_response p at s row m)
ranging_gives p at s row (up.SerialNumber octet1 told random flags) =
    plain (stranger_causes (same_serial told s)) (measured_response p s row (equalization_delay p.config.teqd at)) (measured_gives p s row (equalization_delay p.config.teqd at))
ranging_gives p at s row (up.DyingGasp octet1) = tt
ranging_gives p at s row m = tt

alive_gives : (s : Serial) (row : Row) (o : Option AlarmKind) → PicksNothing (alive_response s row o)
alive_gives s row None = tt
alive_gives s row (Some kind) = tt

acknowledged_gives : (s : Serial) (row : Row) (o : Option ℕ) → PicksNothing (acknowledged_response s row o)
acknowledged_gives s row None = alive_gives s row (alarm_polled row poll.Good)
acknowledged_gives s row (Some alloc) = tt

operating_gives : (s : Serial) (row : Row) (m : Up) → PicksNothing (operating_response s row m)
operating_gives s row (up.Acknowledge octet1 id copy) =
    by_test PicksNothing (id == 10) (acknowledged_response s row row.pending) (alive_response s row (alarm_polled row poll.Good)) (λ is. acknowledged_gives s row row.pending) (λ isnt. alive_gives s row (alarm_polled row poll.Good))
operating_gives s row (up.DyingGasp octet1) = tt
operating_gives s row m = alive_gives s row (alarm_polled row poll.Good)

directed_gives : (response : Serial → Row → Up → Response) (n : ℕ) (m : Up) (o : Option (Serial × Row)) → ((s : Serial) (row : Row) (x : Up) → PicksNothing (response s row x)) → PicksNothing (directed_response response n m o)
directed_gives response n m None each = tt
directed_gives response n m (Some (s, row)) each = plain (stranger_causes (octet1_of m == n)) (response s row m) (each s row m)

pub range_gives : (u : ℕ) (p : PortState) (at n : ℕ) (m : Up) → PicksNothing (message_response u p at (Range n) m)
range_gives u p at n m = directed_gives (λ s row x. ranging_response p at s row x) n m (unit_with p.rows n) (λ s row x. ranging_gives p at s row x)

pub poll_gives : (u : ℕ) (p : PortState) (at n : ℕ) (m : Up) → PicksNothing (message_response u p at (Poll n) m)
poll_gives u p at n m = directed_gives (λ s row x. operating_response s row x) n m (unit_with p.rows n) (λ s row x. operating_gives s row x)

-- so a burst in the window of such a unit gives no number
pub heard_wish : (u : ℕ) (p : PortState) (at : ℕ) (heard : Option Up) (window : WindowState) (grant : Grant) (m : Up) (wished : Option ℕ) (n : ℕ) → p.window ≡ Some window → heard ≡ Some m → window.grant ≡ grant
    → PicksNothing (message_response u p at grant m) → PicksWished p (burst_response u p at heard) wished n
heard_wish u p at heard window grant m wished n opened hears asks h =
    no_wish p (burst_response u p at heard) wished n
    (subst (λ (w : Option WindowState). PicksNothing (windowed_response u p at heard w)) (sym opened)
    (subst (λ (x : Option Up). PicksNothing (heard_response u p at window.grant x)) (sym hears) (subst (λ (g : Grant). PicksNothing (message_response u p at g m)) (sym asks) h)))

-- a ranging unit that is heard as one without an ONU-ID keeps its own, and so does an operating one
pub active_gives : (p : PortState) (s : Serial) (onu : ℕ) (phase : Phase) → PicksNothing (active_response p s onu phase)
active_gives p s onu (Ranging attempts seen) =
    by_test PicksNothing (owes_assign p onu s) (replies (Repeat onu) []) (if_room p (replies (Again onu) (SetsRow s (new_row onu) ∷ Owes (AssignOnu onu s) ∷ []))) (λ is. tt)
    (λ isnt. plain (busy_causes p) (replies (Again onu) (SetsRow s (new_row onu) ∷ Owes (AssignOnu onu s) ∷ [])) tt)
active_gives p s onu (Operating eqd dark garbled) = plain (busy_causes p) (replies (Restarted onu) (removal s onu)) tt

-- ---- commands other than alloc

-- the command gives no Alloc-ID
abbrev pub AsksNoAlloc : Command → Type 0
AsksNoAlloc (command.Alloc serial) = ⊥
AsksNoAlloc _ = Unit {0}

-- a command with these causes to be refused
bare : (causes : List (Bool × Refusal)) (d : Response) → PicksNothing d → PicksNothing (unless refuses causes d)
bare causes d h = by_causes PicksNothing refuses causes d (λ r. tt) (λ none. h)

pub command_gives : (p : PortState) (c : Command) → AsksNoAlloc c → PicksNothing (command_response p c)
command_gives p command.Search h = bare (searching_causes p) (replies Searching (Wants true ∷ [])) tt
command_gives p (command.Alloc s) h = absurd h
command_gives p (command.Dealloc s alloc) h =
    by_active PicksNothing p s (λ row. dealloc_response p s alloc row) (λ r. tt)
    (λ row has. bare (dealloc_causes p row alloc) (replies (Releasing alloc) (SetsRow s (row_releasing row alloc) ∷ Owes (AssignAlloc row.onu alloc false) ∷ [])) tt)
command_gives p (command.Deactivate s) h =
    by_active PicksNothing p s (λ row. deactivate_response p s row) (λ r. tt) (λ row has. bare (busy_causes p) (replies (Deactivated row.onu) (removal s row.onu)) tt)
command_gives p (command.Disable s) h =
    by_unit PicksNothing p s (λ row. disable_response p s row) (λ r. tt) (λ admitted o is. bare (busy_causes p) (replies Disabled (removed_if s o ++ Disables s ∷ Owes (DisableSerial s) ∷ [])) tt)
command_gives p (command.Enable s) h =
    by_unit PicksNothing p s (λ row. enable_response p s row) (λ r. tt) (λ admitted o is. bare (busy_causes p) (replies Enabled (Enables s ∷ Owes (EnableSerial s) ∷ [])) tt)
command_gives p command.EnableAll h = bare (busy_causes p) (replies EnabledAll (EnablesAll ∷ Owes EnableAll ∷ [])) tt
command_gives p (command.Popup s) h =
    by_active PicksNothing p s (λ row. popup_response p row) (λ r. tt) (λ row has. bare (popup_causes p row) (replies (PoppedUp row.onu) (Owes (Popup row.onu) ∷ [])) tt)
command_gives p command.PopupAll h =
    bare (busy_causes p) (replies (PoppedUpAll (count_rows (λ row. is_operating row.phase) p.rows)) (PopsUpAll ∷ Owes (Popup 255) ∷ [])) tt
command_gives p (command.Show s) h = by_active PicksNothing p s (λ row. replies (Shown row) []) (λ r. tt) (λ row has. tt)

-- ---- steps

-- of two outcomes of one response, one that hands out the wished number is the one that picks it
same_pick : (u : ℕ) (p : PortState) (sent : Option Down) (d : Response) (wished : Option ℕ) (n other : ℕ) → PicksWished p d wished n → MayPick p d other → HandsOut wished (answer_with sent d other).reply
    → step_result_with u p sent d n ≡ step_result_with u p sent d other
same_pick u p sent (Responds reply grant alarm changes) wished n other picks may hands = refl
same_pick u p sent (GivesOnu s) wished n other picks may hands = ap (λ (k : ℕ). step_result_with u p sent (GivesOnu s) k) (picks other hands may)
same_pick u p sent (GivesAlloc s row) wished n other picks may hands = ap (λ (k : ℕ). step_result_with u p sent (GivesAlloc s row) k) (picks other hands may)

-- the outcome of a response is the other one, which is of the same response
granted : (u : ℕ) (p : PortState) (sent : Option Down) (d f : Response) (wished : Option ℕ) (n m : ℕ) (o q : StepResult) → f ≡ d → o ≡ step_result_with u p sent d n → PicksWished p d wished n
    → MayPick p f m → q ≡ step_result_with u p sent f m → HandsOut wished q.answer.reply → o ≡ q
granted u p sent d f wished n m o q same is picks may other hands =
    let told : q ≡ step_result_with u p sent d m = other ∙ ap (λ (x : Response). step_result_with u p sent x m) same in
    is
    ∙ same_pick u p sent d wished n m picks (subst (λ (x : Response). MayPick p x m) same may) (subst (λ (x : StepResult). HandsOut wished x.answer.reply) told hands)
    ∙ sym told

pub command_wish : (u : ℕ) (p : PortState) (c : Command) (wished : Option ℕ) (o : StepResult) (n : ℕ) → o ≡ step_result_with u p None (command_response p c) n → PicksWished p (command_response p c) wished n
    → GrantsWish u p (event.Command c) wished o
command_wish u p c wished o n is picks other step hands =
    let t = step.1 in granted u p None (command_response p c) t.response wished n t.picked o other t.said is picks t.may t.is hands

pub burst_wish : HearsOneThing → (u : ℕ) (p : PortState) (at : ℕ) (bytes : List ℕ) (heard : Option Up) (wished : Option ℕ) (o : StepResult) (n : ℕ) → Hears (mask_value p.config.mask) bytes heard
    → o ≡ step_result_with u p None (burst_response u p at heard) n → PicksWished p (burst_response u p at heard) wished n → GrantsWish u p (event.Burst at bytes) wished o
burst_wish one u p at bytes heard wished o n hears is picks other step hands =
    let t = step.1 in
    let same : t.response ≡ burst_response u p at heard = t.said.2 ∙ ap (λ (h : Option Up). burst_response u p at h) (one (mask_value p.config.mask) bytes t.said.0 heard t.said.1 hears) in
    granted u p None (burst_response u p at heard) t.response wished n t.picked o other same is picks t.may t.is hands

pub frame_wish : IsDetermined → (u : ℕ) (p : PortState) (wished : Option ℕ) (o : StepResult) → Step u p event.Frame o → GrantsWish u p event.Frame wished o
frame_wish one u p wished o step other its hands = one u p event.Frame o other step its (frame_ticks u p o step ∙ sym (frame_ticks u p other its))
