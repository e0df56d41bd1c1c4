-- What receipts were asked for (this profile's own rule).
use Rattle.std.specs.Prelude.{ℕ, ◌≡◌, List, ◌++◌, map, take, replicate}
use Rattle.std.specs.List.{flat_map}
use Rattle.gp_machine.specs.declared.event.Command.{Command as CommandOf}
use Rattle.gp_machine.specs.declared.event.Event.{Event}
use Rattle.gp_machine.specs.declared.event.Event.TheVariants.{Frame, Burst, Command}
use Rattle.gp_machine.specs.declared.entry.Receipt.{Receipt}

-- what a receipt was asked for: an event on a port
abbrev pub asked_of : Receipt → ℕ × Event
asked_of receipt = (receipt.port, receipt.entry.event)

-- the receipts grew by just those of what was asked, in order
pub record Extends (old new : List Receipt) (asks : List (ℕ × Event)) : Type 0 where
  pub more : List Receipt
  pub grown : new ≡ old ++ more
  pub asked : map asked_of more ≡ asks

-- the receipts grew by those of a beginning of what was asked
pub record ExtendsBy (old new : List Receipt) (asks : List (ℕ × Event)) : Type 0 where
  pub count : ℕ
  pub prefix : Extends old new (take count asks)

-- so many frames on a port
abbrev pub frames_on : ℕ → ℕ → List (ℕ × Event)
frames_on port count = replicate count (port, Frame)

-- the frames of pairs of a port and a count, pair after pair
abbrev pub frames_of : List (ℕ × ℕ) → List (ℕ × Event)
frames_of pairs = flat_map (λ (pair : ℕ × ℕ). frames_on pair.0 pair.1) pairs

-- a command on a port, as an event
abbrev pub command_on : ℕ × CommandOf → ℕ × Event
command_on asked = (asked.0, Command asked.1)

-- commands on ports, in order
abbrev pub commands_of : List (ℕ × CommandOf) → List (ℕ × Event)
commands_of asks = map command_on asks

-- bursts on a port, each a delay in bit times and its octets
abbrev pub bursts_on : ℕ → List (ℕ × List ℕ) → List (ℕ × Event)
bursts_on port bursts = map (λ (burst : ℕ × List ℕ). (port, Burst burst.0 burst.1)) bursts
