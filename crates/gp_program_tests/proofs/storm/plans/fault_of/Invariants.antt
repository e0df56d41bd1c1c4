use Rattle.gp_licence.specs.declared.ledger_parts.TheConstants.{MAX_LICENCES}
use Rattle.gp_program_tests.proofs.storm.plans.fault_of.Given as goal

abbrev pub ghosts-storm : goal.ghosts-storm
ghosts-storm g a = record { name = a.blank.name; parts = MAX_LICENCES }
