use Rattle.gp_licence.specs.declared.ledger_parts.TheConstants.{MAX_LICENCES}
use Rattle.gp_port_tests.proofs.port.images.all_read.Given as goal

abbrev pub ghosts-read_of_all : goal.ghosts-read_of_all
ghosts-read_of_all a = record { name = a.blank.name; parts = MAX_LICENCES }
