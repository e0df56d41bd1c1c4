-- Who was told what (G.984.3, clause 10).
use Rattle.std.specs.Prelude.{List, ◌++◌}
use Rattle.gp_ploam.specs.declared.message.Down.{Down}
use Rattle.gp_onu.specs.Told.{IsTold}
use Rattle.gp_fibre.specs.World.{FibreUnit, FibreWorld}

-- the unit was sent what it has
abbrev pub IsToldUnit : List Down → FibreUnit → Type 0
IsToldUnit copies unit = IsTold copies unit.state.serial unit.state.stage

-- all copies that were sent, and after them those that are owed
abbrev pub sent_and_owed : FibreWorld → List Down
sent_and_owed world = world.copies ++ world.port.owed
