-- A burst in a search window (G.984.3, clause 10). What is refused, and the order of the causes, is this profile's
-- own rule.
use Rattle.std.specs.Prelude.{ℕ, ◌==◌, ◌&&◌, not, Bool, false, if◌then◌else◌, List, [], ◌∷◌, Option, None, Some}
use Rattle.std.specs.List.{list_any}
use Rattle.std.specs.FinMap.{get}
use Rattle.std.specs.FinSet as finset
use Rattle.gp_ploam.specs.declared.message.Serial.{Serial}
use Rattle.gp_ploam.specs.declared.message.Down.{Down}
use Rattle.gp_ploam.specs.declared.message.Down.TheVariants.{AssignOnu}
use Rattle.gp_ploam.specs.declared.message.Up.{Up}
use Rattle.gp_ploam.specs.declared.message.Up.TheVariants.{SerialNumber}
use Rattle.gp_ploam.specs.Serials.{same_serial, is_among}
use Rattle.gp_alarms.specs.declared.alarm.AlarmKind.TheVariants.{Df}
use Rattle.gp_unit.specs.declared.row.Phase.{Phase}
use Rattle.gp_unit.specs.declared.row.Phase.TheVariants.{Ranging, Operating}
use Rattle.gp_unit.specs.declared.row.Row.{Row}
use Rattle.gp_unit.specs.Rows.{new_row}
use Rattle.gp_machine.specs.declared.refusal.Refusal.{Refusal}
use Rattle.gp_machine.specs.declared.refusal.Refusal.TheVariants.{WrongWindow, NotAdmitted, NoId, NoLicence}
use Rattle.gp_machine.specs.declared.reply.Reply.TheVariants.{Refused, Again, Repeat, Restarted, DisabledSeen}
use Rattle.gp_machine.specs.State.{PortState, has_free_onu}
use Rattle.gp_machine.specs.Responses.{Response, GivesOnu, replies, alarms, removal, busy_causes, unless}
use Rattle.gp_machine.specs.Changes.{Owes, MarksSeen, SetsRow}

-- a burst that is refused is seen by the window, if one is open, and changes nothing else
abbrev pub refuses_burst : Refusal → Response
refuses_burst refusal = replies (Refused refusal) (MarksSeen ∷ [])

-- this is done where a message may be owed, and else the burst is refused
abbrev pub if_room : PortState → Response → Response
if_room port response = unless refuses_burst (busy_causes port) response

-- the message is Assign_ONU-ID of this ONU-ID to this serial number
abbrev pub is_assign : ℕ → Serial → Down → Bool
is_assign onu serial (AssignOnu told_onu told_serial) = onu == told_onu && same_serial serial told_serial
is_assign onu serial _ = false

-- the unit is still to be told its ONU-ID
abbrev pub owes_assign : PortState → ℕ → Serial → Bool
owes_assign port onu serial = list_any (is_assign onu serial) port.owed

-- why a unit may not become active
abbrev pub newcomer_causes : ℕ → PortState → List (Bool × Refusal)
newcomer_causes licences port = (not (has_free_onu port), NoId) ∷ (licences == 0, NoLicence) ∷ busy_causes port

-- an admitted unit that is not active: it gets any free ONU-ID
abbrev pub newcomer_response : ℕ → PortState → Serial → Response
newcomer_response licences port serial = unless refuses_burst (newcomer_causes licences port) (GivesOnu serial)

-- a ranging unit begins anew with its own ONU-ID, and is told it again, but where it is still to be told it
abbrev pub again_response : PortState → Serial → ℕ → Response
again_response port serial onu =
    if owes_assign port onu serial then replies (Repeat onu) []
    else if_room port (replies (Again onu) (SetsRow serial (new_row onu) ∷ Owes (AssignOnu onu serial) ∷ []))

-- a unit that is active already, by its phase: an operating one is removed
abbrev pub active_response : PortState → Serial → ℕ → Phase → Response
active_response port serial onu (Ranging attempts seen) = again_response port serial onu
active_response port serial onu (Operating eqd dark garbled) =
    if_room port (replies (Restarted onu) (removal serial onu))

-- an admitted unit that is not disabled, by the row that it has
abbrev pub enabled_response : ℕ → PortState → Serial → Option Row → Response
enabled_response licences port serial None = newcomer_response licences port serial
enabled_response licences port serial (Some row) = active_response port serial row.onu row.phase

-- an admitted unit
abbrev pub admitted_response : ℕ → PortState → Serial → Response
admitted_response licences port serial =
    if finset.contains port.disabled serial then alarms DisabledSeen Df serial []
    else enabled_response licences port serial (get port.rows serial)

-- why a serial number is not heard in a search window: it has to be from an admitted unit without an ONU-ID
abbrev pub search_causes : PortState → ℕ → Serial → List (Bool × Refusal)
search_causes port octet1 serial =
    (not (octet1 == 255), WrongWindow) ∷ (not (is_among serial port.config.admitted), NotAdmitted) ∷ []

-- a message in a search window: it has to be a serial number
abbrev pub search_response : ℕ → PortState → Up → Response
search_response licences port (SerialNumber octet1 serial random flags) =
    unless refuses_burst (search_causes port octet1 serial) (admitted_response licences port serial)
search_response licences port _ = refuses_burst WrongWindow
