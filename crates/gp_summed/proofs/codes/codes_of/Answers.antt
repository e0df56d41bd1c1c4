-- behind the last port all sixteen are counted
use Rattle.std.proofs.Common.{◌≡◌, ◌∙◌, ℕ, ap, arith}
use Rattle.gp_summed.specs.Codes.{codes_of}
use Rattle.gp_summed.proofs.codes.codes_of.Goals as goal

pub returns : goal.returns
returns c =
    let behind = c.ports-test.false in
    let within = c.ports.auto.port-end in
    let all : c.ports.port ≡ 16 = omega arith in
    c.ports.invariant ∙ ap (λ (n : ℕ). codes_of c.args.listener.now.ports n) all
