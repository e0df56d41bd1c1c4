use Rattle.std.proofs.Common.{◌≡◌, ℕ, List, IfOk, string_bytes, subst, sym, ap, ◌∙◌}
use Rattle.gp_check.specs.Check.{found_text}
use Rattle.gp_check.proofs.TextLemmas.{three_counts}
use Rattle.gp_check.proofs.found.found_text.Goals as goal

pub returns-in_ok-events-in-Script : goal.returns-in_ok-events-in-Script
returns-in_ok-events-in-Script c =
    subst (λ (z : List ℕ). IfOk c.format.result (λ text. string_bytes text ≡ z))
    (sym (ap found_text c.in-Script.is
    ∙ three_counts _ _ _ _ _ _ c.in_ok-ports-in-Script.ensures c.in_ok-units-in-Script.ensures c.in_ok-events-in-Script.ensures))
    c.format.ensures.ok
