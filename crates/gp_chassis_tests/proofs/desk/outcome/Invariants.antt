use Rattle.gp_licence.specs.declared.ledger_parts.TheConstants.{MAX_LICENCES}
use Rattle.gp_chassis_tests.proofs.desk.outcome.Given as goal

abbrev pub ghosts-outcome_of : goal.ghosts-outcome_of
ghosts-outcome_of a = record { name = a.blank.name; parts = MAX_LICENCES }
