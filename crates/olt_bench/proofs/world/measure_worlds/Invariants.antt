use Rattle.gp_licence.specs.declared.ledger_parts.TheConstants.{MAX_LICENCES}
use Rattle.olt_bench.proofs.world.measure_worlds.Given as goal

abbrev pub ghosts-measure_round : goal.ghosts-measure_round
ghosts-measure_round g a = record { name = a.blank.name; parts = MAX_LICENCES }
