use Rattle.std.proofs.Common.{◌≡◌, drop}
use Rattle.gp_outcome.specs.Junit.{all_counted}
use Rattle.gp_outcome.specs.Tally.{nothing}
use Rattle.gp_outcome.proofs.junit.tally_of.Given as goal

abbrev pub invariant-verdicts : goal.invariant-verdicts
invariant-verdicts l = all_counted l.tally (drop l.verdict-index l.verdicts) ≡ all_counted nothing l.verdicts
