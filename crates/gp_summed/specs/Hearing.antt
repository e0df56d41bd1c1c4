-- What was heard of a text that comes in any pieces (this profile's own rule).
use Rattle.std.specs.Prelude.{◌≡◌, ℕ, Bool, true, false, List, [], ◌∷◌, ⊤}
use Rattle.gp_ploam.specs.declared.check.Mask.{Mask}
use Rattle.gp_audit.specs.Listening.{HearsLine, none_heard}
use Rattle.gp_audit.specs.Port.{PortState}
use Rattle.gp_tally.specs.Counting.{CountingState}
use Rattle.gp_tally.specs.Text.{HasLines}

-- lines are heard one after another
abbrev pub HearsLines : Mask → List (List ℕ) → List PortState → List PortState → Type 0
HearsLines mask [] old new = new ≡ old
HearsLines mask (line ∷ lines) old new =
    (mid : List PortState) × HearsLine mask line old mid × HearsLines mask lines mid new

-- what is known of the ports by the lines of a text, and nothing by the last one, which isn't ended yet
pub record HearsText (mask : Mask) (text last : List ℕ) (ports : List PortState) : Type 0 where
  pub lines : List (List ℕ)
  pub has : HasLines text lines last
  pub heard : HearsLines mask lines none_heard ports

-- the same, whatever line isn't ended yet
pub record AreHeard (mask : Mask) (text : List ℕ) (ports : List PortState) : Type 0 where
  pub last : List ℕ
  pub hears : HearsText mask text last ports

-- a hearer: all octets that it was handed, the mask of its codes, what is known of each port, and whether something
-- could not be heard
pub record HearerState : Type 0 where
  pub taken : List ℕ
  pub mask : Mask
  pub ports : List PortState
  pub refused : Bool

-- a writer that counts and hears what it passes on: the writer that counts, and the hearer
pub record HearingState (W : Type 0) : Type 0 where
  pub counting : CountingState W
  pub hearer : HearerState

-- nothing was handed to it
-- Inside: no public contract cites what stands from here on.
abbrev pub hearer_begun : Mask → HearerState
hearer_begun mask = record { taken = []; mask = mask; ports = none_heard; refused = false }

-- until something can't be heard it hears what it was handed, and keeps the line that isn't ended yet
abbrev pub IsHearing : Bool → Mask → List ℕ → List ℕ → List PortState → Type 0
IsHearing true mask taken last ports = ⊤
IsHearing false mask taken last ports = HearsText mask taken last ports
