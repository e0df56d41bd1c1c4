-- Lit units, and what all of them hear and answer in a frame of a run that loses nothing.
use Rattle.std.specs.Prelude.{ℕ, true, List, [], ◌∷◌, ◌++◌, map, Option, None, Some}
use Rattle.std.specs.Option.{option_to_list}
use Rattle.gp_ploam.specs.declared.message.Serial.{Serial}
use Rattle.gp_ploam.specs.declared.message.Down.{Down}
use Rattle.gp_ploam.specs.declared.check.Mask.{Mask}
use Rattle.gp_ranging.specs.declared.grant.Grant.{Grant}
use Rattle.gp_onu.specs.declared.stage.Stage.{Stage}
use Rattle.gp_fibre.specs.declared.sent_burst.SentBurst.{SentBurst}
use Rattle.gp_fibre.specs.World.{FibreUnit}
use Rattle.gp_fibre.specs.Step.{unit_hearing, unit_granted, burst_answered}

-- a lit unit in this stage
abbrev pub unit_at : Serial → Mask → ℕ → ℕ → Stage → FibreUnit
unit_at serial mask delay random stage =
    record {
      state = record { serial = serial; mask = mask; lit = true; stage = stage };
      delay = delay;
      random = random;
    }

-- all units hear a copy, if one was sent
abbrev pub units_hearing : Option Down → List FibreUnit → List FibreUnit
units_hearing None units = units
units_hearing (Some message) units = map (unit_hearing message) units

-- all units take a grant, if one was issued
abbrev pub units_granted : Option Grant → List FibreUnit → List FibreUnit
units_granted None units = units
units_granted (Some grant) units = map (unit_granted grant) units

-- their bursts, in the order of the units
abbrev pub bursts_answered : Grant → List FibreUnit → List SentBurst
bursts_answered grant [] = []
bursts_answered grant (unit ∷ units) = option_to_list (burst_answered grant unit) ++ bursts_answered grant units

-- their bursts, if a grant was issued
abbrev pub answers_given : Option Grant → List FibreUnit → List SentBurst
answers_given None units = []
answers_given (Some grant) units = bursts_answered grant units
