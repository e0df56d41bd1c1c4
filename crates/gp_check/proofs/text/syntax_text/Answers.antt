use Rattle.std.proofs.Common.{◌≡◌, ℕ, List, ◌++◌, IfOk, codes, decimal, string_bytes, subst, sym, ap, ◌∙◌}
use Rattle.gp_check.proofs.TextLemmas.{seven}
use Rattle.gp_check.proofs.text.syntax_text.Goals as goal

pub returns : goal.returns
returns c =
    subst (λ (z : List ℕ). IfOk c.format.result (λ text. string_bytes text ≡ z))
    (ap (λ (m : List ℕ). codes "line " ++ (decimal c.args.syntax.now.line ++ (codes ", " ++ (codes "column " ++ (decimal c.args.syntax.now.column ++ (codes ": 1 syntax, " ++ m)))))) c.as_str-message.ensures.value
    ∙ sym (seven (codes "line ") (decimal c.args.syntax.now.line) (codes ", ") (codes "column ") (decimal c.args.syntax.now.column) (codes ": 1 syntax, ") (string_bytes c.args.syntax.now.message)))
    c.format.ensures.ok
