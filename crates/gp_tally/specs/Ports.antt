-- What is counted of each port by the lines of a trace (this profile's own rule).
use Rattle.std.specs.Prelude.{◌≡◌, ℕ, ◌⊎◌, List, [], ◌∷◌, Option, None, Some, slice_get, slice_set}
use Rattle.gp_ploam.specs.declared.check.Mask.{Mask}
use Rattle.gp_machine.specs.declared.event.Event.{Event}
use Rattle.gp_lines.specs.Trace.{SplitsLine}
use Rattle.gp_tally.specs.declared.told.Told.{Told}
use Rattle.gp_tally.specs.Told.{TellsLine}
use Rattle.gp_tally.specs.Tally.{PortTally, noted}

-- this is told of the port at this place, if there is one
abbrev pub told_with : List PortTally → ℕ → Told → Option PortTally → List PortTally
told_with ports port told None = ports
told_with ports port told (Some tally) = slice_set ports port (noted tally told)

abbrev pub told_at : List PortTally → ℕ → Told → List PortTally
told_at ports port told = told_with ports port told (slice_get ports port)

-- the text is no line of a trace
abbrev pub IsNoLine : List ℕ → Type 0
IsNoLine text = (port number : ℕ) (event : Event) (answer : List ℕ) → SplitsLine text port number event answer → ⊥

-- a line of a trace tells this of a port
pub record CountsTold (mask : Mask) (text : List ℕ) (old new : List PortTally) : Type 0 where
  pub port : ℕ
  pub told : Told
  pub tells : TellsLine mask text port told
  pub counted : new ≡ told_at old port told

-- what it tells is counted, or it is no line of a trace
abbrev pub CountsLine : Mask → List ℕ → List PortTally → List PortTally → Type 0
CountsLine mask text old new = CountsTold mask text old new ⊎ (IsNoLine text × (new ≡ old))

-- lines are counted one after another
abbrev pub CountsLines : Mask → List (List ℕ) → List PortTally → List PortTally → Type 0
CountsLines mask [] old new = new ≡ old
CountsLines mask (line ∷ lines) old new =
    (mid : List PortTally) × CountsLine mask line old mid × CountsLines mask lines mid new
