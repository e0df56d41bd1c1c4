use Rattle.std.proofs.Common.{◌≡◌, rules, subst, sym}
use Rattle.gp_storm.specs.Rounds.{AddUp, GoOn, IsSoFar, ends_of}
use Rattle.gp_storm.proofs.RoundLemmas.{joined_so_far}
use Rattle.gp_storm.proofs.so_far.SoFar.joined.Goals as goal

pub returns-in-Ok-clause-runs : goal.returns-in-Ok-clause-runs
returns-in-Ok-clause-runs c = λ configs so_far ending.
    let go : GoOn c.args.self.ends.items c.args.cut.pieces.items = search rules in
    let sum : AddUp c.args.self.totals c.args.cut.totals c.in-Some.totals = search rules in
    let ends : c.in-Ok.ends.items ≡ ends_of c.args.cut.pieces.items = search rules in
    subst (λ ports. IsSoFar configs ports c.in-Some.totals) (sym ends)
    (joined_so_far configs c.args.self.ends.items c.args.cut.pieces.items c.args.self.totals c.args.cut.totals c.in-Some.totals go sum so_far ending)
