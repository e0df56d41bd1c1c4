-- What the threads of a storm serve, and which of their faults is told (this profile's own rule).
use Rattle.std.specs.Prelude.{◌≡◌, ◌<◌, ◌≤◌, ◌+◌, ◌-◌, ◌==◌, ℕ, List, [], ◌∷◌, Result, Ok, Err, MatchBool, ◌⊎◌, map, take, length, slice_index_or}
use Rattle.gp_machine.specs.declared.event.Event.{Event}
use Rattle.gp_machine.specs.declared.entry.Receipt.{Receipt}
use Rattle.gp_workers.specs.Asked.{asked_of, commands_of, frames_of}
use Rattle.gp_workers.specs.Ring.{GrowsByBursts}
use Rattle.gp_storm.specs.declared.fault.PlanFault.{PlanFault}
use Rattle.gp_storm.specs.declared.fault.PlanFault.TheVariants as plans
use Rattle.gp_storm.specs.declared.fault.StormFault.{StormFault}
use Rattle.gp_storm.specs.declared.fault.StormFault.TheVariants as storms
use Rattle.gp_storm.specs.declared.plan.Plan.{Plan}

-- how the loop of a task ended
abbrev pub Ended : Type 0
Ended = Result (Unit {0}) PlanFault

-- the first fault of a list, in its order
abbrev pub first_fault_of : List Ended → Ended
first_fault_of [] = Ok tt
first_fault_of (Ok _ ∷ rest) = first_fault_of rest
first_fault_of (Err fault ∷ rest) = Err fault

-- the receipts are those of all that was asked, in order, or where the loop ended early those of a beginning of it
abbrev pub Serves : List (ℕ × Event) → List Receipt → Ended → Type 0
Serves asks receipts (Ok _) = map asked_of receipts ≡ asks
Serves asks receipts (Err _) = (count : ℕ) × (map asked_of receipts ≡ take count asks)

-- what the task at a place tells: the first one is the operator's, the last one the clock's, and between them each
-- port has its reader
abbrev pub IsServed : Plan → ℕ → ℕ → List Receipt → Ended → Type 0
IsServed plan last place receipts ended =
    MatchBool (place == 0) (Serves (commands_of plan.commands.items) receipts ended)
    (MatchBool (place == last) (Serves (frames_of plan.frames.items) receipts ended)
    (GrowsByBursts [] receipts (place - 1)))

-- the first worker was told of all commands, the last one of all frames, and those between them of bursts on their
-- ports
pub record AreServed (plan : Plan) (last : ℕ) (receipts : List (List Receipt)) : Type 0 where
  pub commands : map asked_of (slice_index_or receipts 0 []) ≡ commands_of plan.commands.items
  pub frames : map asked_of (slice_index_or receipts last []) ≡ frames_of plan.frames.items
  pub bursts : (place : ℕ) → 0 < place → place < last → GrowsByBursts [] (slice_index_or receipts place []) (place - 1)
  pub count : length receipts ≡ last + 1

-- each task served as its place has it, and of their faults this is the first: the operator's, else that of the first
-- reader by port, else the clock's
pub record EndsFirst (plan : Plan) (last : ℕ) (fault : PlanFault) : Type 0 where
  pub receipts : List (List Receipt)
  pub ends : List Ended
  pub count : length ends ≡ last + 1
  pub served : (place : ℕ) → place ≤ last
      → IsServed plan last place (slice_index_or receipts place []) (slice_index_or ends place (Ok tt))
  pub first : first_fault_of ends ≡ Err fault

-- why the tasks of a plan did not serve all of it: the first of their faults, no memory, or a thread that was not
-- started
abbrev pub IsFaultOf : Plan → ℕ → PlanFault → Type 0
IsFaultOf plan last plans.NoPort = EndsFirst plan last plans.NoPort
IsFaultOf plan last plans.JournalFull = EndsFirst plan last plans.JournalFull
IsFaultOf plan last plans.OutOfMemory = Unit {0}
IsFaultOf plan last plans.Mismatch = Unit {0}

-- why a storm of a plan on so many ports has no totals
abbrev pub IsStormFaultOf : Plan → ℕ → StormFault → Type 0
IsStormFaultOf plan ports storms.Limit = Unit {0}
IsStormFaultOf plan ports storms.NoPort =
    (ports < length plan.bursts.items) ⊎ EndsFirst plan (ports + 1) plans.NoPort
IsStormFaultOf plan ports storms.JournalFull = EndsFirst plan (ports + 1) plans.JournalFull
IsStormFaultOf plan ports storms.OutOfMemory = Unit {0}
IsStormFaultOf plan ports storms.Mismatch = Unit {0}
