use Rattle.std.proofs.Common.{◌≡◌, ◌∙◌, ◌++◌, ℕ, List, None, rules, subst}
use Rattle.gp_ploam.specs.declared.check.Mask.{Mask}
use Rattle.gp_verify.specs.Verdicts.{Moves}
use Rattle.gp_summed.specs.Verifying.{said_by}
use Rattle.gp_summed.proofs.Plays.{moved_to}
use Rattle.gp_summed.proofs.counting_verifier.CountingVerifier.judge.Goals as goal

pub invariant_of-self-2 : goal.invariant_of-self-2
invariant_of-self-2 g c =
    let was = c.self.invariant in
    let old = c.self.inside.verifier in
    let new = c.judge.new.self in
    let before = c.self.inside.counter.taken in
    let verdict = c.in_ok-verdict.verdict in
    let judged = c.in_ok-verdict.ensures in
    let none : old.ended ≡ None = search rules in
    let moves : Moves verdict g.B.Opening.mask c.args.text.now old.play new.play new.said =
    subst (λ (m : Mask). Moves verdict m c.args.text.now old.play new.play new.said) was.1 (judged.moved none) in
    let taken : c.count.new.counter.taken ≡ before ++ said_by verdict new.said =
    subst (λ (s : List ℕ). c.count.new.counter.taken ≡ before ++ said_by verdict s) c.said.ensures c.count.ensures.taken in (
      moved_to verdict g.B.Opening.mask c.args.text.now g.B.Opening.start old.play new.play before c.count.new.counter.taken new.said was.0 moves taken,
      judged.mask ∙ was.1,
      c.count.ensures.mask ∙ was.2,
      c.count.ensures.ports ∙ was.3,
    )
