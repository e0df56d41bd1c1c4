use Rattle.gp_licence.specs.declared.ledger_parts.TheConstants.{MAX_LICENCES}
use Rattle.olt_more.proofs.picks.verify.Given as goal

abbrev pub ghosts-recorded_on : goal.ghosts-recorded_on
ghosts-recorded_on a = record { name = a.blank.name; parts = MAX_LICENCES }
