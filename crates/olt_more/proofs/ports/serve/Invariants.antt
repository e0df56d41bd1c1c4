use Rattle.gp_licence.specs.declared.ledger_parts.TheConstants.{MAX_LICENCES}
use Rattle.olt_more.proofs.ports.serve.Given as goal

abbrev pub ghosts-serve_on : goal.ghosts-serve_on
ghosts-serve_on a = record { name = a.blank.name; parts = MAX_LICENCES }
