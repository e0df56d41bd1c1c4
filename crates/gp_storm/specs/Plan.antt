-- What the threads of a storm do, by the events of a script (this profile's own rule).
use Rattle.std.specs.Prelude.{◌≡◌, ℕ, List, [], ◌∷◌, map, get_or, length, sum_by, if◌then◌else◌, ◌==◌}
use Rattle.std.specs.Global.{Vec}
use Rattle.std.specs.List.{flat_map}
use Rattle.gp_machine.specs.declared.event.Command.{Command as CommandOf}
use Rattle.gp_script.specs.declared.script.ScriptEvent.{ScriptEvent}
use Rattle.gp_script.specs.declared.script.ScriptEvent.TheVariants.{Frames, Burst, Command, Light}
use Rattle.gp_script.specs.Script.{ScriptView}
use Rattle.gp_storm.specs.declared.plan.Plan.{Plan}

-- ---- what an event asks for

-- the burst on this port, if the event is one: its whole round-trip delay, in bit times, and its octets
abbrev pub burst_of : ℕ → ScriptEvent → List (ℕ × List ℕ)
burst_of port (Frames on count) = []
burst_of port (Burst on at bytes) = if on == port then (at, bytes) ∷ [] else []
burst_of port (Command on command) = []
burst_of port (Light unit lit) = []

-- the port and the number of its frames, if the event is of frames
abbrev pub frames_of : ScriptEvent → List (ℕ × ℕ)
frames_of (Frames port count) = (port, count) ∷ []
frames_of (Burst port at bytes) = []
frames_of (Command port command) = []
frames_of (Light unit lit) = []

-- the command and its port, if the event is one
abbrev pub command_of : ScriptEvent → List (ℕ × CommandOf)
command_of (Frames port count) = []
command_of (Burst port at bytes) = []
command_of (Command port command) = (port, command) ∷ []
command_of (Light unit lit) = []

-- how many frames pairs of a port and a count ask for
abbrev pub frame_count : List (ℕ × ℕ) → ℕ
frame_count pairs = sum_by (λ (pair : ℕ × ℕ). pair.1) pairs

-- how many frames a script asks for, on all its ports
abbrev pub frames_asked : ScriptView → ℕ
frames_asked script = frame_count (flat_map frames_of script.events)

-- how many commands a script asks for, on all its ports
abbrev pub commands_asked : ScriptView → ℕ
commands_asked script = length (flat_map command_of script.events)

-- ---- the plan

-- lists of bursts, without where they lie in memory
abbrev pub burst_lists : List (Vec (ℕ × List ℕ)) → List (List (ℕ × List ℕ))
burst_lists lists = map (λ (bursts : Vec (ℕ × List ℕ)). bursts.items) lists

-- the bursts that are planned for a port
abbrev pub bursts_at : ℕ → Plan → List (ℕ × List ℕ)
bursts_at port plan = get_or (burst_lists plan.bursts.items) port []

-- each port has its bursts, the clock all frames, and the operator all commands, each in the order of the script
pub record IsPlanOf (script : ScriptView) (plan : Plan) : Type 0 where
  pub ports : length plan.bursts.items ≡ length script.ports
  pub bursts : (port : ℕ) → bursts_at port plan ≡ flat_map (burst_of port) script.events
  pub frames : plan.frames.items ≡ flat_map frames_of script.events
  pub commands : plan.commands.items ≡ flat_map command_of script.events
