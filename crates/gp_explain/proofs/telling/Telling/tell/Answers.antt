use Rattle.std.proofs.Common.{rules}
use Rattle.gp_explain.proofs.ServingLemmas.{IsUncut}
use Rattle.gp_explain.proofs.TellingLemmas.{passed}
use Rattle.gp_explain.proofs.telling.Telling.tell.Goals as goal

pub returns-in-None-clause-ok : goal.returns-in-None-clause-ok
returns-in-None-clause-ok c =
    let uncut : IsUncut c.args.text.now = c.in-None.ensures.none in
    passed c.push_other.result c.args.self.now c.args.text.now c.push_other.new.out.items uncut (search rules)
