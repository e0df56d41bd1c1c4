use Rattle.std.proofs.Common.{ap, sym, ◌∙◌}
use Rattle.gp_log.specs.Fields.{Field}
use Rattle.gp_log.specs.Says.{delay_of}
use Rattle.gp_log.proofs.NextLemmas.{over_next}
use Rattle.gp_log.proofs.says.next_delay.Goals as goal

pub returns-then-is_over : goal.returns-then-is_over
returns-then-is_over c =
    let none = over_next c.args.text.now (sym c.is_over.ensures ∙ c.if-is_over.true) in
    (ap (λ (f : Field). delay_of f.0) none, ap (λ (f : Field). f.1) none)
