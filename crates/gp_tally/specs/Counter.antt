-- Counting a text that comes in any pieces (this profile's own rule).
use Rattle.std.specs.Prelude.{◌≡◌, ℕ, Bool, true, false, List, [], replicate, ⊤}
use Rattle.gp_ploam.specs.declared.check.Mask.{Mask}
use Rattle.gp_tally.specs.Tally.{PortTally, no_tally}
use Rattle.gp_tally.specs.Text.{CountsText}

-- a counter: all octets that it was handed, the mask of its codes, what is counted of each port, and whether memory was
-- refused
pub record CounterState : Type 0 where
  pub taken : List ℕ
  pub mask : Mask
  pub ports : List PortTally
  pub refused : Bool

-- nothing was handed to it
abbrev pub Began : Mask → ℕ → CounterState → Type 0
Began mask ports state =
    state ≡ record { taken = []; mask = mask; ports = replicate ports no_tally; refused = false }

-- until memory is refused it counts what it was handed, and keeps the line that isn't ended yet
-- Inside: no public contract cites this.
abbrev pub IsCounting : Bool → Mask → List ℕ → List ℕ → List PortTally → Type 0
IsCounting true mask taken last ports = ⊤
IsCounting false mask taken last ports = CountsText mask taken last ports
