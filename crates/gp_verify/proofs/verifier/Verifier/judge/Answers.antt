use Rattle.std.proofs.Common.{◌<◌, ◌^◌, arith}
use Rattle.gp_verify.proofs.JudgingLemmas.{one_less}
use Rattle.gp_verify.proofs.verifier.Verifier.judge.Goals as goal

pub invariant_of-self-2 : goal.invariant_of-self-2
invariant_of-self-2 g c =
    let lines = c.self.inside.lines in
    let fits : lines < 2 ^ 64 = omega arith in (
      omega (arith, c.in_ok-verdict.ensures.ports, c.self.invariant.0),
      c.in_ok-verdict.ensures.room _ (one_less lines c.if-self.false fits c.self.inside.player c.self.invariant.1),
      c.in_ok-verdict.ensures.stays c.self.invariant.2,
    )
