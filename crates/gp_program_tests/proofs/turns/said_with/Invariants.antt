use Rattle.gp_licence.specs.declared.ledger_parts.TheConstants.{MAX_LICENCES}
use Rattle.gp_program_tests.proofs.turns.said_with.Given as goal

abbrev pub ghosts-said_on : goal.ghosts-said_on
ghosts-said_on a = record { name = a.blank.name; parts = MAX_LICENCES }
