use Rattle.gp_licence.specs.declared.ledger_parts.TheConstants.{MAX_LICENCES}
use Rattle.olt_bench.proofs.threads.measure_threads.Given as goal

abbrev pub ghosts-measure_chassis : goal.ghosts-measure_chassis
ghosts-measure_chassis g a = record { name = a.blank.name; parts = MAX_LICENCES }
