-- the new ledger is the one whose name the port and its licences have
use Rattle.gp_licence.specs.declared.ledger_parts.TheConstants.{MAX_LICENCES}
use Rattle.olt_one_unit.proofs.main.Given as goal

abbrev pub ghosts-activate : goal.ghosts-activate
ghosts-activate a = record { name = a.blank.name; parts = MAX_LICENCES }
