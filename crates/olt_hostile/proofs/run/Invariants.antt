use Rattle.gp_licence.specs.declared.ledger_parts.TheConstants.{MAX_LICENCES}
use Rattle.olt_hostile.proofs.run.Given as goal

abbrev pub ghosts-attack_ports : goal.ghosts-attack_ports
ghosts-attack_ports g a = record { name = a.blank.name; parts = MAX_LICENCES }
