-- What it means to play a script without simulated units: one actor serves the script's events on a chassis, one
-- after another, in their order (this profile's own rule).
use Rattle.std.specs.Prelude.{◌≡◌, ℕ, ◌+◌, List, [], ◌∷◌, ◌++◌, Some, map, replicate, slice_get, slice_set}
use Rattle.std.specs.List.{flat_map}
use Rattle.gp_machine.specs.declared.event.Event.TheVariants.{Frame, Burst, Command}
use Rattle.gp_machine.specs.declared.entry.Receipt.{Receipt}
use Rattle.gp_chassis.specs.World.{Move, ChassisRun}
use Rattle.gp_chassis.specs.Core.{moves_of}
use Rattle.gp_script.specs.declared.script.ScriptEvent.{ScriptEvent}
use Rattle.gp_script.specs.declared.script.ScriptEvent.TheVariants as events
use Rattle.gp_script.specs.Script.{ScriptView}
use Rattle.gp_replay.specs.declared.turn.Turn.{Turn}
use Rattle.gp_replay.specs.Chassis.{PlayState, opening_play}

-- a frame of a port
abbrev pub frame_turn : ℕ → Turn
frame_turn port = record { port = port; event = Frame }

-- the turns that an event of a script stands for: so many frames are a turn each, and light, which comes with units,
-- is none
abbrev pub turns_of : ScriptEvent → List Turn
turns_of (events.Frames port count) = replicate count (frame_turn port)
turns_of (events.Burst port at bytes) = record { port = port; event = Burst at bytes } ∷ []
turns_of (events.Command port command) = record { port = port; event = Command command } ∷ []
turns_of (events.Light unit lit) = []

-- the turns of a script's events, in their order
abbrev pub all_turns : List ScriptEvent → List Turn
all_turns es = flat_map turns_of es

-- the turn that a receipt tells of
abbrev pub turn_of : Receipt → Turn
turn_of receipt = record { port = receipt.port; event = receipt.entry.event }

-- what actor 0 does in the turn that a receipt tells of: for a burst it takes a licence; the port makes the step of the
-- entry; and what is left is given back
abbrev pub moves_told : Receipt → List Move
moves_told receipt = moves_of receipt.entry.event receipt.port receipt.entry

-- what actor 0 does in all these turns
abbrev pub all_moves : List Receipt → List Move
all_moves receipts = flat_map moves_told receipts

-- each entry has the number that was the next one of its port
abbrev pub AreNumbered : List ℕ → List Receipt → List ℕ → Type 0
AreNumbered old [] new = new ≡ old
AreNumbered old (receipt ∷ receipts) new =
    (slice_get old receipt.port ≡ Some receipt.number)
    × AreNumbered (slice_set old receipt.port (receipt.number + 1)) receipts new

-- the turns are taken one after the other: the receipts tell of these turns, what the actor does in them is a run of
-- the chassis, and the entries are numbered on each port
pub record TakesTurns (old : PlayState) (turns : List Turn) (receipts : List Receipt) (new : PlayState) : Type 0 where
  pub told : map turn_of receipts ≡ turns
  pub run : ChassisRun (all_moves receipts) old.world new.world
  pub numbers : AreNumbered old.next receipts new.next

-- these turns are taken
abbrev pub TakesAllTurns : List Turn → PlayState → List Receipt → PlayState → Type 0
TakesAllTurns turns old receipts new = TakesTurns old turns receipts new

-- some of these turns are taken, from the first on
pub record TakesSomeTurns
    (turns : List Turn) (old : PlayState) (receipts : List Receipt) (new : PlayState) : Type 0 where
  pub done : List Turn
  pub left : List Turn
  pub split : turns ≡ done ++ left
  pub taken : TakesTurns old done receipts new

-- the receipts are those of the turns of the script's events, taken on the chassis that the script opens
pub record ChassisPlays (script : ScriptView) (receipts : List Receipt) : Type 0 where
  pub end : PlayState
  pub turns : TakesTurns (opening_play script) (all_turns script.events) receipts end

-- the receipts are those of some of these turns, from the first on
pub record ChassisPlaysPrefix (script : ScriptView) (receipts : List Receipt) : Type 0 where
  pub end : PlayState
  pub turns : TakesSomeTurns (all_turns script.events) (opening_play script) receipts end
