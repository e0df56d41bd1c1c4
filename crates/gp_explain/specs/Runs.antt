-- Runs of a line that are told as they are.
-- Inside: no public contract cites this.
use Rattle.std.specs.Prelude.{◌≡◌, ℕ, ◌-◌, Bool, true, false, List, ◌++◌, length, take}
use Rattle.gp_ploam.specs.declared.check.Mask.{Mask}
use Rattle.gp_explain.specs.declared.place.Place.{Place}
use Rattle.gp_explain.specs.declared.place.Place.TheVariants.{Word, Delay, UnitCode, TerminalCode}
use Rattle.gp_explain.specs.Words.{TellsPart}

-- a code should stand there
abbrev pub is_code : Place → Bool
is_code Word = false
is_code Delay = false
is_code UnitCode = true
is_code TerminalCode = true

-- what of `run` stands before its end `behind`
abbrev pub front : List ℕ → List ℕ → List ℕ
front run behind = take (length run - length behind) run

-- up to `behind` all of the run is told as it is, and then the part that `behind` begins with; of what is told a last
-- part isn't appended yet, and stands before the rest in what is left of the run
pub record RunsOn (mask : Mask) (place : Place) (part run behind left before after : List ℕ) : Type 0 where
  pub told : List ℕ
  pub tells : TellsPart mask place part told
  pub pending : List ℕ
  pub apart : (rest : List ℕ) → behind ≡ part ++ rest → left ≡ pending ++ rest
  pub stands : after ++ pending ≡ (before ++ front run behind) ++ told
