-- When a script passes (this profile's own rule).
use Rattle.std.specs.Prelude.{◌≡◌, ◌≢◌, ℕ, List, [], ◌∷◌, ◌++◌, Option, Some, Ok, string_bytes}
use Rattle.gp_script.specs.Script.{ScriptView}
use Rattle.gp_check.specs.Check.{Places, said_by}
use Rattle.gp_check.specs.declared.checking.Purpose.TheVariants as purposes
use Rattle.gp_compare.specs.Comparer.{IsAll}
use Rattle.gp_compare.specs.Texts.{TextDiffers}
use Rattle.gp_outcome.specs.declared.judging.Expected.{Expected}
use Rattle.gp_outcome.specs.declared.judging.Expected.TheVariants as expects
use Rattle.gp_outcome.specs.declared.outcome.Failure.TheVariants as failures
use Rattle.gp_outcome.specs.declared.outcome.Outcome.{Outcome}
use Rattle.gp_outcome.specs.declared.outcome.Outcome.TheVariants as outcomes
use Rattle.gp_outcome.specs.Playing.{PlaysAs, PlaysOther}

-- what becomes of a script that is played beside this trace: it passes only where what it wrote is all of the trace, to
-- the last octet, and has a line; of one whose play writes no line nothing was compared
abbrev pub IsJudgedPlay : ScriptView → Option (List ℕ) → Outcome → Type 0
IsJudgedPlay script trace (outcomes.Passed lines) = PlaysAs script trace lines × (lines ≢ 0)
IsJudgedPlay script trace (outcomes.Failed failures.NothingPlayed) = PlaysAs script trace 0
IsJudgedPlay script trace (outcomes.Failed (failures.OtherTrace difference)) = PlaysOther script trace difference
IsJudgedPlay script trace outcome = ⊥

-- what becomes of one that is wrong, of which this is told: it passes only where that, with a line feed behind it, is
-- all of what is expected, to the last octet
abbrev pub IsJudgedTold : List ℕ → Option (List ℕ) → Outcome → Type 0
IsJudgedTold told faults outcomes.Refused = IsAll faults (told ++ 10 ∷ [])
IsJudgedTold told faults (outcomes.Failed (failures.OtherFault difference)) =
    TextDiffers faults (told ++ 10 ∷ []) difference
IsJudgedTold told faults outcome = ⊥

-- what becomes of a script that is right
abbrev pub IsJudgedRight : {R : Type 0} → ScriptView → Expected R → Outcome → Type 0
IsJudgedRight script (expects.Trace trace) outcome = IsJudgedPlay script trace.remaining outcome
IsJudgedRight script (expects.Faults faults) outcome = outcome ≡ outcomes.Failed failures.Right
IsJudgedRight script expects.Nothing outcome = outcome ≡ outcomes.Failed failures.NothingBeside

-- it is told that this is wrong with it
abbrev pub IsTold : List ℕ → Outcome → Type 0
IsTold told (outcomes.Failed (failures.Wrong text)) = string_bytes text ≡ told
IsTold told outcome = ⊥

-- what becomes of one that is wrong, of which this is told
abbrev pub IsJudgedWrong : {R : Type 0} → List ℕ → Expected R → Outcome → Type 0
IsJudgedWrong told (expects.Trace trace) outcome = IsTold told outcome
IsJudgedWrong told (expects.Faults faults) outcome = IsJudgedTold told faults.remaining outcome
IsJudgedWrong told expects.Nothing outcome = IsTold told outcome

-- what becomes of octets: they say a script, or this is told of what is wrong with them, as `check` tells it behind the
-- file's name
pub data IsJudged {R : Type 0} (octets : List ℕ) (expected : Expected R) (outcome : Outcome) : Type 0 where
  Right : (script : ScriptView) → said_by purposes.Replay octets ≡ Ok script → IsJudgedRight script expected outcome
      → IsJudged octets expected outcome
  Wrong : (told : List ℕ) → Places purposes.Replay octets (Some told) → IsJudgedWrong told expected outcome
      → IsJudged octets expected outcome
