-- How many units may be active.
use Rattle.std.proofs.Common.{◌≡◌, ◌≤◌, true, arith}
use Rattle.std.proofs.lemmas.Bool.Decides.{nat_tests}
use Rattle.gp_machine.specs.declared.config.PortConfig.{PortConfig}
use Rattle.gp_machine.specs.Config.{is_within_limits}
use Rattle.gp_machine.specs.State.{rows_of}
use Rattle.gp_laws.specs.Runs.{EveryStateIsSound}
use Rattle.gp_chassis.specs.Desk.{DeskState, DeskStands}

max_units_few : (config : PortConfig) → is_within_limits config ≡ true → config.max_units ≤ 254
max_units_few config within = grind (arith, nat_tests, within)

-- no more units are active on a port than there are ONU-IDs
pub units_few : (desk : DeskState) → EveryStateIsSound → DeskStands desk → rows_of desk.state ≤ 254
units_few desk sound stands =
    let few = (sound desk.state.config desk.state stands.reached).units.few in
    let most = max_units_few desk.state.config stands.replays.within in
    omega (arith, few, most)
