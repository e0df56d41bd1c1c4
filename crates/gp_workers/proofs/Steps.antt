-- A step that a desk makes.
use Rattle.std.specs.Prelude.{ℕ}
use Rattle.gp_machine.specs.declared.event.Event.{Event}
use Rattle.gp_machine.specs.declared.entry.Receipt.{Receipt}
use Rattle.gp_laws.specs.Runs.{EveryStateIsSound}
use Rattle.gp_chassis.specs.Desk.{DeskState, DeskStands, Serves}
use Rattle.gp_workers.specs.Chassis.{IsSomeStep}

-- what a desk serves is a step from a sound state
pub some_step : (old new : DeskState) (port purse : ℕ) (event : Event) (receipt : Receipt) (rest : ℕ) → EveryStateIsSound → DeskStands old → Serves old new port purse event receipt rest → IsSomeStep receipt.entry
some_step old new port purse event receipt rest sound stands serves = record {
  stood = old.state;
  after = new.state;
  reached = stands.reached;
  sound = sound old.state.config old.state stands.reached;
  step = serves.step;
}
