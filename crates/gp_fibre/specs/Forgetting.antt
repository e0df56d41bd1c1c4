-- What a world forgets (this profile's own rule).
use Rattle.std.specs.Prelude.{◌≡◌, ℕ, List, [], ◌∷◌, Option, length, min}
use Rattle.gp_machine.specs.declared.entry.Entry.{Entry}
use Rattle.gp_fibre.specs.declared.flight.Flight.{Flight}
use Rattle.gp_fibre.specs.declared.sent.TheConstants.{MAX_FORGOTTEN}
use Rattle.gp_fibre.specs.declared.world_step.WorldStep.{WorldStep}
use Rattle.gp_fibre.specs.World.{FibreWorld, Forgotten}
use Rattle.gp_fibre.specs.Sent.{ItemsForget}
use Rattle.gp_fibre.specs.Schedule.{WorldState, FramesRun, StepsTo}

-- the new fibre is the old one, but for copies, grants and bursts that were forgotten: how many there were stays
pub record FibreForgets (old new : FibreWorld) : Type 0 where
  pub port : new.port ≡ old.port
  pub free : new.free ≡ old.free
  pub units : new.units ≡ old.units
  pub copies : ItemsForget old.forgotten.copies old.copies new.forgotten.copies new.copies
  pub grants : ItemsForget old.forgotten.grants old.grants new.forgotten.grants new.grants
  pub bursts : ItemsForget old.forgotten.bursts old.bursts new.forgotten.bursts new.bursts

-- the new world is the old one, but for what was forgotten
pub record WorldForgets (old new : WorldState) : Type 0 where
  pub fibre : FibreForgets old.fibre new.fibre
  pub licences : new.licences ≡ old.licences
  pub frames : new.frames ≡ old.frames
  pub flights : new.flights ≡ old.flights

-- these are forgotten, but none from number 2^63 on
abbrev pub forgotten_before : ℕ → ℕ → ℕ → Forgotten
forgotten_before copies grants bursts =
    record { copies = min copies MAX_FORGOTTEN; grants = min grants MAX_FORGOTTEN; bursts = min bursts MAX_FORGOTTEN }

-- the least number of a burst that is still to come, or this one where it is less
abbrev pub first_to_come : ℕ → List Flight → ℕ
first_to_come first [] = first
first_to_come first (flight ∷ flights) = first_to_come (min first flight.number) flights

-- all copies and grants, and the bursts before the first that is still to come
abbrev pub all_but_coming : WorldState → Forgotten
all_but_coming world =
    forgotten_before (length world.fibre.copies) (length world.fibre.grants)
    (first_to_come (length world.fibre.bursts) world.flights)

-- a world that forgot makes only frames that it could have made if it had not, with the same entries, and then stands
-- as that would, but for what was forgotten
abbrev pub ForgettingChangesNoFrames : Type 0
ForgettingChangesNoFrames =
    (lost_copies lost_bursts : List ℕ) (count : ℕ) (whole old new : WorldState) (entries : List Entry)
    → WorldForgets whole old
    → FramesRun lost_copies lost_bursts count old entries new
    → (after : WorldState) × FramesRun lost_copies lost_bursts count whole entries after × WorldForgets after new

-- and only steps that it could have made
abbrev pub ForgettingChangesNoSteps : Type 0
ForgettingChangesNoSteps =
    (step : WorldStep) (whole old new : WorldState) (given : Option Entry)
    → WorldForgets whole old
    → StepsTo old step given new
    → (after : WorldState) × StepsTo whole step given after × WorldForgets after new
