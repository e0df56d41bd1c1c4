use Rattle.std.proofs.Common.{◌≡◌, true, rules, subst, sym}
use Rattle.std.specs.List.{list_all}
use Rattle.gp_storm.specs.Rounds.{IsSoFar, begins_port, ends_of}
use Rattle.gp_storm.proofs.RoundLemmas.{begun_so_far}
use Rattle.gp_storm.proofs.so_far.SoFar.begun.Goals as goal

pub returns-in-Ok-clause-runs : goal.returns-in-Ok-clause-runs
returns-in-Ok-clause-runs c = λ configs ending.
    let begin : list_all begins_port c.args.cut.pieces.items ≡ true = search rules in
    let ends : c.in-Ok.ends.items ≡ ends_of c.args.cut.pieces.items = search rules in
    subst (λ ports. IsSoFar configs ports c.args.cut.totals) (sym ends) (begun_so_far configs c.args.cut.pieces.items c.args.cut.totals begin ending)
