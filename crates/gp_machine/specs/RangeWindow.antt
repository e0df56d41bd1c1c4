-- A burst in the window of a ranging unit (G.984.3, clause 10; what is refused is this profile's own rule).
use Rattle.std.specs.Prelude.{ℕ, not, Bool, List, [], ◌∷◌, Option, None, Some}
use Rattle.gp_ploam.specs.declared.message.Serial.{Serial}
use Rattle.gp_ploam.specs.declared.message.Down.TheVariants.{RangingTime}
use Rattle.gp_ploam.specs.declared.message.Up.{Up}
use Rattle.gp_ploam.specs.declared.message.Up.TheVariants.{SerialNumber, DyingGasp}
use Rattle.gp_ploam.specs.Serials.{same_serial}
use Rattle.gp_ranging.specs.Delay.{equalization_delay}
use Rattle.gp_alarms.specs.declared.alarm.AlarmKind.TheVariants.{Dg}
use Rattle.gp_unit.specs.declared.row.Row.{Row}
use Rattle.gp_unit.specs.Rows.{row_measured}
use Rattle.gp_machine.specs.declared.refusal.Refusal.{Refusal}
use Rattle.gp_machine.specs.declared.refusal.Refusal.TheVariants.{WrongWindow}
use Rattle.gp_machine.specs.declared.reply.Reply.TheVariants.{Ranged, TooFar, StillRanging, Gasp}
use Rattle.gp_machine.specs.State.{PortState}
use Rattle.gp_machine.specs.Responses.{Response, replies, alarms, unless}
use Rattle.gp_machine.specs.Changes.{Owes, MarksSeen, ClosesWindow, SetsRow}
use Rattle.gp_machine.specs.SearchWindow.{refuses_burst, if_room}

-- the serial number of the unit that is asked, by the equalization delay that its round-trip delay leaves
abbrev pub measured_response : PortState → Serial → Row → Option ℕ → Response
measured_response port serial row None = replies (TooFar row.onu) (MarksSeen ∷ [])
measured_response port serial row (Some eqd) =
    if_room port
    (replies (Ranged row.onu eqd)
    (ClosesWindow ∷ SetsRow serial (row_measured row eqd) ∷ Owes (RangingTime row.onu eqd) ∷ []))

-- why a message is none of the unit that is asked: by what it says
abbrev pub stranger_causes : Bool → List (Bool × Refusal)
stranger_causes own = (not own, WrongWindow) ∷ []

-- a message from the ranging unit that is asked, after a round-trip delay
abbrev pub ranging_response : PortState → ℕ → Serial → Row → Up → Response
ranging_response port round_trip serial row (SerialNumber octet1 told random flags) =
    unless refuses_burst (stranger_causes (same_serial told serial))
    (measured_response port serial row (equalization_delay port.config.teqd round_trip))
ranging_response port round_trip serial row (DyingGasp octet1) = alarms (Gasp row.onu) Dg serial (MarksSeen ∷ [])
ranging_response port round_trip serial row _ = replies (StillRanging row.onu) (MarksSeen ∷ [])
