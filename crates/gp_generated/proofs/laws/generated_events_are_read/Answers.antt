use Rattle.gp_generate.specs.declared.scene.TheConstants.{ORDERS, SAYINGS, SCENES}
use Rattle.gp_generate.specs.Plan.{mask_of}
use Rattle.gp_generate.specs.Script.{event_at}
use Rattle.gp_generated.proofs.ReadLemmas.{event_read}
use Rattle.gp_generated.proofs.StepLemmas.{event_within}
use Rattle.gp_generated.proofs.laws.generated_events_are_read.Goals as goal

pub returns-clause-within : goal.returns-clause-within
returns-clause-within c = event_within SCENES SAYINGS ORDERS

pub returns-clause-read : goal.returns-clause-read
returns-clause-read c = λ plan number is.
    event_read plan.ports plan.units (mask_of plan) (event_at SCENES SAYINGS ORDERS plan number)
    (event_within SCENES SAYINGS ORDERS plan number is)
