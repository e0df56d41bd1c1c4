use Rattle.std.proofs.Common.{◌≡◌, ◌++◌, ◌∙◌, ℕ, List, OnOk, ap, append_assoc, subst}
use Rattle.gp_outcome.specs.Object.{text_of, why_fields}
use Rattle.gp_outcome.proofs.object.Fields.why.Goals as goal

pub returns : goal.returns
unfolding why_fields
returns c =
    subst (λ (z : List ℕ). OnOk c.text.result (c.text.new.self.octets.items ≡ z))
    (ap (λ (z : List ℕ). z ++ text_of c.args.why.now) c.in_ok-plain.ensures ∙ append_assoc c.args.self.now.octets.items _ _)
    c.text.ensures
