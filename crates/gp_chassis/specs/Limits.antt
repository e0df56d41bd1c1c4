-- The limits of a chassis (this profile's own rule).
use Rattle.std.specs.Prelude.{ℕ, ◌≡◌, ◌<◌, ◌≤◌, List, length, All, IsTrue, is_some}
use Rattle.std.specs.FinMap.{get}
use Rattle.std.specs.List.{flat_map}
use Rattle.gp_ploam.specs.declared.message.Serial.{Serial}
use Rattle.gp_ploam.specs.Serials.{is_among}
use Rattle.gp_serial.specs.Admitted.{Admissions}
use Rattle.gp_licence.specs.Limits.{max_licences}
use Rattle.gp_machine.specs.declared.config.PortConfig.{PortConfig}
use Rattle.gp_machine.specs.Config.{is_within_limits, is_distinct, max_ports, max_journal_limit}
use Rattle.gp_chassis.specs.declared.config.ChassisConfig.{ChassisConfig}

-- how many entries the journals keep is within its limits
pub record IsJournalLimit (limit : ℕ) : Type 0 where
  pub some : 0 < limit
  pub most : limit ≤ max_journal_limit

-- the serial numbers that are admitted, port by port
abbrev pub all_admitted : List PortConfig → List Serial
all_admitted ports = flat_map (λ (port : PortConfig). port.admitted) ports

-- the admission list has these serial numbers and no others
abbrev pub Lists : Admissions → List Serial → Type 0
Lists admissions serials = (serial : Serial) → is_some (get admissions serial) ≡ is_among serial serials

-- each number of the configuration is within its limits, and no serial number is admitted twice, on one port or on two
pub record IsWithin (config : ChassisConfig) : Type 0 where
  pub licences : config.licences ≤ max_licences
  pub journal : IsJournalLimit config.journal_limit
  pub some_port : 0 < length config.ports.items
  pub few_ports : length config.ports.items ≤ max_ports
  pub limits : All (λ port. IsTrue (is_within_limits port)) config.ports.items
  pub once : IsTrue (is_distinct (all_admitted config.ports.items))
