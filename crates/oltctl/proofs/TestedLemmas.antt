-- Whether one of the files that are told of failed, and what does not pass.
use Rattle.std.specs.Prelude.{◌||◌}
use Rattle.std.proofs.Common.{◌≡◌, ℕ, Bool, false, List, [], ◌∷◌, ap, map, refl}
use Rattle.std.specs.List.{list_any}
use Rattle.gp_outcome.specs.declared.judging.Expected.TheVariants as expects
use Rattle.gp_outcome.specs.declared.outcome.Outcome.{Outcome}
use Rattle.gp_outcome.specs.declared.outcome.Outcome.TheVariants as outcomes
use Rattle.gp_outcome.specs.Tally.{is_failed}
use Rattle.gp_outcome.specs.Judging.{IsJudged, IsTold}
use Rattle.gp_outcome.specs.Judging.IsJudged.{Right, Wrong}
use Rattle.oltctl.specs.declared.scripts.Slot.{Slot}
use Rattle.oltctl.specs.Tested.{has_failed_in, is_passed, outcome_in}

pub any_of : (slots : List Slot) → list_any has_failed_in slots ≡ list_any is_failed (map outcome_in slots)
any_of [] = refl
any_of (slot ∷ slots) = ap (λ (b : Bool). has_failed_in slot || b) (any_of slots)

-- what is told to be wrong does not pass
told_fails : (told : List ℕ) (outcome : Outcome) → IsTold told outcome → is_passed outcome ≡ false
told_fails told (outcomes.Passed lines) h = absurd h
told_fails told outcomes.Refused h = absurd h
told_fails told outcomes.Written h = refl
told_fails told (outcomes.Failed failure) h = refl

-- nor does what is judged by nothing
pub nothing_passes : {R : Type 0} (octets : List ℕ) (outcome : Outcome) → IsJudged {R = R} octets expects.Nothing outcome → is_passed outcome ≡ false
nothing_passes octets outcome (Right script says h) = ap is_passed h
nothing_passes octets outcome (Wrong told says h) = told_fails told outcome h
