use Rattle.std.proofs.Common.{◌≡◌, ℕ, List, ◌++◌, IfOk, codes, string_bytes, subst, sym, ap, ◌∙◌}
use Rattle.gp_check.proofs.TextLemmas.{key_below}
use Rattle.gp_check.proofs.text.key_text.Goals as goal

pub returns : goal.returns
returns c =
    subst (λ (z : List ℕ). IfOk c.format.result (λ text. string_bytes text ≡ z))
    (sym (key_below c.args.table c.args.key.now (sym c.is_top.ensures ∙ c.if-is_top.false) ∙ ap (λ (t : List ℕ). t ++ (codes ", " ++ c.args.key.now)) (sym c.in_ok-table.ensures)))
    c.format.ensures.ok
