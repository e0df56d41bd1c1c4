-- What became of a file that is told of.
use Rattle.std.specs.Prelude.{◌≡◌, Bool, true, false}
use Rattle.gp_folder.specs.declared.case.Beside.{Beside}
use Rattle.gp_folder.specs.declared.case.Beside.TheVariants as besides
use Rattle.gp_outcome.specs.Tally.{is_failed}
use Rattle.gp_outcome.specs.declared.outcome.Outcome.{Outcome}
use Rattle.gp_outcome.specs.declared.outcome.Outcome.TheVariants as outcomes
use Rattle.oltctl.specs.declared.scripts.Slot.{Slot}

abbrev pub outcome_in : Slot → Outcome
outcome_in slot = slot.verdict.outcome

abbrev pub has_failed_in : Slot → Bool
has_failed_in slot = is_failed (outcome_in slot)

-- it is as it has to be
abbrev pub is_passed : Outcome → Bool
is_passed (outcomes.Passed lines) = true
is_passed outcomes.Refused = true
is_passed outcome = false

-- a script with nothing beside it, or with both, does not pass, whatever it is
abbrev pub PassesBy : Beside → Outcome → Type 0
PassesBy besides.Nothing outcome = is_passed outcome ≡ false
PassesBy besides.Both outcome = is_passed outcome ≡ false
PassesBy beside outcome = Unit {0}
