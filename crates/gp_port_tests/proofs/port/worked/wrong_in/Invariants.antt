use Rattle.gp_licence.specs.declared.ledger_parts.TheConstants.{MAX_LICENCES}
use Rattle.gp_port_tests.proofs.port.worked.wrong_in.Given as goal

abbrev pub ghosts-wrong_in_run : goal.ghosts-wrong_in_run
ghosts-wrong_in_run a = record { name = a.blank.name; parts = MAX_LICENCES }
