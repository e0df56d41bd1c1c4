use Rattle.std.proofs.Common.{rules, ℕ, Option, ◌∙◌, subst, arith}
use Rattle.std.proofs.lemmas.List.{length-set}
use Rattle.gp_waves.specs.Held.{IsWithin}
use Rattle.gp_waves.proofs.HeldLemmas.{wide_declared, widened}
use Rattle.gp_waves.proofs.hearing.Waves.declared.Goals as goal

pub ports-preserved : goal.ports-preserved
ports-preserved c =
    let all = c.ports.invariant.all in
    let test = c.ports-test.true in
    record {
      all = length-set _ _ _ ∙ all;
      wide = widened _ c.ports.declared c.ports.number c.wider.result (omega (arith, all, test)) c.ports.invariant.wide
          (subst (λ (l : Option ℕ). IsWithin l c.wider.result) c.lanes_of.ensures c.wider.ensures.first);
    }

pub returns : goal.returns
returns c = wide_declared _ c.ports.declared c.ports.number (search rules) c.ports.invariant.wide
