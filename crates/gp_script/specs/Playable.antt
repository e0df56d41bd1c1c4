-- What a script has to be for a line terminal to play it (this profile's own rule).
use Rattle.std.specs.Prelude.{◌≡◌, ◌<◌, ◌≤◌, All, IsTrue, length}
use Rattle.gp_licence.specs.Limits.{max_licences}
use Rattle.gp_onu.specs.Limits.{max_simulated_units}
use Rattle.gp_machine.specs.Config.{is_distinct, is_within_limits, max_ports, max_journal_limit}
use Rattle.gp_script.specs.Port.{all_admitted}
use Rattle.gp_script.specs.Script.{ScriptView, max_events}
use Rattle.gp_script.specs.Unit.{is_unit_within_limits}
use Rattle.gp_script.specs.View.{NamesOneOf}

-- what a line terminal needs of a script so that it can play it
pub record IsPlayable (script : ScriptView) : Type 0 where
  -- no more licences than there may be
  pub licences : script.licences ≤ max_licences
  -- a port's journal keeps an entry at least
  pub some_entry : 1 ≤ script.journal_limit
  -- and no more entries than it may
  pub few_entries : script.journal_limit ≤ max_journal_limit
  -- a port at least
  pub some_port : 0 < length script.ports
  -- no more ports than there may be
  pub few_ports : length script.ports ≤ max_ports
  -- each port's configuration is within its limits
  pub limits : All (λ port. IsTrue (is_within_limits port)) script.ports
  -- no serial number is admitted twice, on one port or on two
  pub once : IsTrue (is_distinct (all_admitted script.ports))
  -- each port has the script's mask
  pub one_mask : All (λ port. port.mask ≡ script.mask) script.ports
  -- no more simulated units than there may be
  pub few_units : length script.units ≤ max_simulated_units
  -- each unit's delays are within their limits
  pub units : All (λ unit. IsTrue (is_unit_within_limits unit)) script.units
  -- units stand on the fibre of one port
  pub one_fibre : 0 < length script.units → length script.ports ≡ 1
  -- each event names a port or a unit that is there
  pub events : All (NamesOneOf (length script.ports) (length script.units)) script.events
  -- no more events than there may be
  pub few_events : length script.events ≤ max_events
