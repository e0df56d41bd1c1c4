-- What is counted of a text that comes in any pieces (this profile's own rule).
use Rattle.std.specs.Prelude.{◌≡◌, ℕ, false, List, [], ◌∷◌, ◌++◌, All, length, replicate}
use Rattle.std.specs.List.{flat_map}
use Rattle.gp_ploam.specs.declared.check.Mask.{Mask}
use Rattle.gp_lines.specs.Trace.{is_feed}
use Rattle.gp_tally.specs.Tally.{PortTally, no_tally}
use Rattle.gp_tally.specs.Ports.{CountsLines}

-- no octet of it is a line feed
abbrev pub IsOneLine : List ℕ → Type 0
IsOneLine text = All (λ octet. is_feed octet ≡ false) text

-- a line with its line feed
abbrev pub fed : List ℕ → List ℕ
fed line = line ++ 10 ∷ []

-- the text is these lines, each with its line feed, and behind them a line that isn't ended yet
pub record HasLines (text : List ℕ) (lines : List (List ℕ)) (last : List ℕ) : Type 0 where
  pub split : text ≡ flat_map fed lines ++ last
  pub each : All IsOneLine lines
  pub one : IsOneLine last

-- what is counted of the lines of a text, and nothing of the last one, which isn't ended yet
pub record CountsText (mask : Mask) (text last : List ℕ) (ports : List PortTally) : Type 0 where
  pub lines : List (List ℕ)
  pub has : HasLines text lines last
  pub counted : CountsLines mask lines (replicate (length ports) no_tally) ports

-- the same, whatever line isn't ended yet
pub record AreTallies (mask : Mask) (text : List ℕ) (ports : List PortTally) : Type 0 where
  pub last : List ℕ
  pub counts : CountsText mask text last ports
