use Rattle.gp_licence.specs.declared.ledger_parts.TheConstants.{MAX_LICENCES}
use Rattle.gp_port_tests.proofs.port.images.wrong_in_all.Given as goal

abbrev pub ghosts-wrong_in_images : goal.ghosts-wrong_in_images
ghosts-wrong_in_images a = record { name = a.blank.name; parts = MAX_LICENCES }
