-- A configuration is told by what it holds.
use Rattle.std.proofs.Common.{◌≡◌, ◌<◌, ◌≤◌, List, length, subst, ℕ}
use Rattle.std.specs.Prelude.{All, IsTrue}
use Rattle.gp_licence.specs.Limits.{max_licences}
use Rattle.gp_machine.specs.declared.config.PortConfig.{PortConfig}
use Rattle.gp_machine.specs.Config.{is_within_limits, is_distinct, max_ports}
use Rattle.gp_chassis.specs.declared.config.ChassisConfig.{ChassisConfig}
use Rattle.gp_chassis.specs.Limits.{IsWithin, IsJournalLimit, all_admitted}

-- one that has the same is within the limits too
pub same_within : (config other : ChassisConfig) → config.ports.items ≡ other.ports.items → config.licences ≡ other.licences → config.journal_limit ≡ other.journal_limit
    → IsWithin config → IsWithin other
same_within config other ports licences journal within = record {
  licences = subst (λ (n : ℕ). n ≤ max_licences) licences within.licences;
  journal = subst (λ (n : ℕ). IsJournalLimit n) journal within.journal;
  some_port = subst (λ (configs : List PortConfig). 0 < length configs) ports within.some_port;
  few_ports = subst (λ (configs : List PortConfig). length configs ≤ max_ports) ports within.few_ports;
  limits = subst (λ (configs : List PortConfig). All (λ port. IsTrue (is_within_limits port)) configs) ports within.limits;
  once = subst (λ (configs : List PortConfig). IsTrue (is_distinct (all_admitted configs))) ports within.once;
}
