-- What a line asks for, as what is played (this profile's own rule).
use Rattle.std.specs.Prelude.{◌≡◌, ◌<◌, nat_lt, if◌then◌else◌, ℕ, List, [], ◌∷◌, ◌++◌, Option, None, Some, Result, Ok, Err, length, map}
use Rattle.std.specs.List.{flat_map}
use Rattle.gp_ranging.specs.declared.grant.Grant.{Grant}
use Rattle.gp_machine.specs.declared.entry.Receipt.{Receipt}
use Rattle.gp_machine.specs.declared.event.Event.{Event}
use Rattle.gp_machine.specs.declared.event.Event.TheVariants as happens
use Rattle.gp_script.specs.declared.script.ScriptEvent.{ScriptEvent}
use Rattle.gp_script.specs.declared.script.ScriptEvent.TheVariants as events
use Rattle.gp_lines.specs.declared.turn.Asked.{Asked}
use Rattle.gp_lines.specs.declared.turn.Asked.TheVariants as asked
use Rattle.gp_replay.specs.declared.fault.PlayFault.{PlayFault}
use Rattle.gp_replay.specs.Playing.{HasGrant, Playing}
use Rattle.gp_replay.specs.Writing.{Happening}
use Rattle.gp_drive.specs.declared.fault.TurnFault.{TurnFault}
use Rattle.gp_drive.specs.declared.fault.TurnFault.TheVariants.{NoPort, NoUnit, Never}

-- an event of a port, as a script has it
abbrev pub event_of : ℕ → Event → ScriptEvent
event_of port happens.Frame = events.Frames port 1
event_of port (happens.Burst at bytes) = events.Burst port at bytes
event_of port (happens.Command command) = events.Command port command

-- ---- frames up to a grant

-- frames of a port are played one after the other, and these are the entries of each
abbrev pub FramesPlayed : {S : Type 0} → Playing S → ℕ → S → List (List Receipt) → S → Type 0
FramesPlayed playing port old [] new = new ≡ old
FramesPlayed playing port old (receipts ∷ more) new =
    (mid : _) × playing.whole (events.Frames port 1) old receipts mid × FramesPlayed playing port mid more new

-- the grant is made in a frame with these entries
abbrev pub IsMade : Grant → List Receipt → Type 0
IsMade grant receipts = HasGrant grant (map (λ receipt. receipt.entry) receipts)

-- it is made in none of these frames
abbrev pub IsNeverMade : Grant → List (List Receipt) → Type 0
IsNeverMade grant [] = Unit {0}
IsNeverMade grant (receipts ∷ more) = (IsMade grant receipts → ⊥) × IsNeverMade grant more

-- all entries of frames
abbrev pub all_of : List (List Receipt) → List Receipt
all_of frames = flat_map (λ (receipts : List Receipt). receipts) frames

-- frames up to the first one that makes the grant, at most so many
pub record PlaysUntil {S : Type 0} (playing : Playing S) (port : ℕ) (grant : Grant) (most : ℕ) (old : S)
    (receipts : List Receipt) (new : S) : Type 0 where
  pub before : List (List Receipt)
  pub last : List Receipt
  pub played : FramesPlayed playing port old (before ++ last ∷ []) new
  pub never : IsNeverMade grant before
  pub made : IsMade grant last
  pub fewer : length before < most
  pub receipts_are : receipts ≡ all_of (before ++ last ∷ [])

-- so many frames, none of which makes the grant
pub record PlaysInVain {S : Type 0} (playing : Playing S) (port : ℕ) (grant : Grant) (most : ℕ) (old : S)
    (receipts : List Receipt) (new : S) : Type 0 where
  pub frames : List (List Receipt)
  pub played : FramesPlayed playing port old frames new
  pub never : IsNeverMade grant frames
  pub many : length frames ≡ most
  pub receipts_are : receipts ≡ all_of frames

-- fewer than so many of these frames, none of which makes the grant, and the next one in part
pub record PlaysUntilPart {S : Type 0} (playing : Playing S) (port : ℕ) (grant : Grant) (most : ℕ) (old : S)
    (receipts : List Receipt) (new : S) : Type 0 where
  pub frames : List (List Receipt)
  pub mid : S
  pub played : FramesPlayed playing port old frames mid
  pub never : IsNeverMade grant frames
  pub fewer : length frames < most
  pub last : List Receipt
  pub part : playing.part (events.Frames port 1) mid last new
  pub receipts_are : receipts ≡ all_of frames ++ last

-- ---- turns

-- what a line asks for is played; where it asks for a unit to be shown, nothing is
abbrev pub PlaysTurn : {S : Type 0} → Playing S → Asked → Happening S
PlaysTurn playing asked.Nothing old receipts new = (new ≡ old) × (receipts ≡ [])
PlaysTurn playing (asked.Event port event) old receipts new = playing.whole (event_of port event) old receipts new
PlaysTurn playing (asked.Frames port count) old receipts new =
    playing.whole (events.Frames port count) old receipts new
PlaysTurn playing (asked.Until port grant most) old receipts new =
    PlaysUntil playing port grant most old receipts new
PlaysTurn playing (asked.Light unit lit) old receipts new = playing.whole (events.Light unit lit) old receipts new
PlaysTurn playing (asked.ShowUnit unit) old receipts new = (new ≡ old) × (receipts ≡ [])

-- what a line asks for is played, but the grant up to which frames were asked for is made in none of them
abbrev pub PlaysWithout : {S : Type 0} → Playing S → Asked → Happening S
PlaysWithout playing (asked.Until port grant most) old receipts new =
    PlaysInVain playing port grant most old receipts new
PlaysWithout playing _ old receipts new = ⊥

-- what a line asks for is played, by what is then told to be wrong with it
abbrev pub PlaysTo : {S : Type 0} → Playing S → Asked → Option TurnFault → Happening S
PlaysTo playing turn None old receipts new = PlaysTurn playing turn old receipts new
PlaysTo playing turn (Some fault) old receipts new = (fault ≡ Never) × PlaysWithout playing turn old receipts new

-- what is told of it, where no fault came
abbrev pub told_by : Result (Option TurnFault) PlayFault → Option TurnFault
told_by (Ok told) = told
told_by (Err fault) = None

-- it is played in part, since a fault came
abbrev pub PlaysTurnPart : {S : Type 0} → Playing S → Asked → Happening S
PlaysTurnPart playing asked.Nothing old receipts new = (new ≡ old) × (receipts ≡ [])
PlaysTurnPart playing (asked.Event port event) old receipts new = playing.part (event_of port event) old receipts new
PlaysTurnPart playing (asked.Frames port count) old receipts new =
    playing.part (events.Frames port count) old receipts new
PlaysTurnPart playing (asked.Until port grant most) old receipts new =
    PlaysUntilPart playing port grant most old receipts new
PlaysTurnPart playing (asked.Light unit lit) old receipts new = playing.part (events.Light unit lit) old receipts new
PlaysTurnPart playing (asked.ShowUnit unit) old receipts new = (new ≡ old) × (receipts ≡ [])

-- the first of so many ports or units that a line asks for and that is not there
abbrev pub missing_in : ℕ → ℕ → Asked → Option TurnFault
missing_in ports units asked.Nothing = None
missing_in ports units (asked.Event port event) = if nat_lt port ports then None else Some NoPort
missing_in ports units (asked.Frames port count) = if nat_lt port ports then None else Some NoPort
missing_in ports units (asked.Until port grant most) = if nat_lt port ports then None else Some NoPort
missing_in ports units (asked.Light unit lit) = if nat_lt unit units then None else Some NoUnit
missing_in ports units (asked.ShowUnit unit) = if nat_lt unit units then None else Some NoUnit

-- how many frames a line asks for at most, or that it asks for one other thing to happen
abbrev pub cost_of : Asked → ℕ
cost_of asked.Nothing = 0
cost_of (asked.Event port event) = 1
cost_of (asked.Frames port count) = count
cost_of (asked.Until port grant most) = most
cost_of (asked.Light unit lit) = 1
cost_of (asked.ShowUnit unit) = 0
