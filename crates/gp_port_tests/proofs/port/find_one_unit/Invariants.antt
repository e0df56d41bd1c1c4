use Rattle.gp_licence.specs.declared.ledger_parts.TheConstants.{MAX_LICENCES}
use Rattle.gp_port_tests.proofs.port.find_one_unit.Given as goal

abbrev pub ghosts-find_one : goal.ghosts-find_one
ghosts-find_one a = record { name = a.blank.name; parts = MAX_LICENCES }
