use Rattle.std.proofs.Common.{◌≡◌, ℕ, List, IfOk, string_bytes, subst, sym}
use Rattle.gp_check.proofs.TextLemmas.{many_told, one_told}
use Rattle.gp_check.proofs.found.count_text.Goals as goal

pub returns-then-count-eq1 : goal.returns-then-count-eq1
returns-then-count-eq1 c =
    subst (λ (z : List ℕ). IfOk c.format.result (λ text. string_bytes text ≡ z)) (sym (one_told c.args.count c.args.what.now c.if-count-eq1.true))
    c.format.ensures.ok

pub returns-else-count-eq1 : goal.returns-else-count-eq1
returns-else-count-eq1 c =
    subst (λ (z : List ℕ). IfOk c.format-else-count-eq1.result (λ text. string_bytes text ≡ z))
    (sym (many_told c.args.count c.args.what.now c.if-count-eq1.false)) c.format-else-count-eq1.ensures.ok
