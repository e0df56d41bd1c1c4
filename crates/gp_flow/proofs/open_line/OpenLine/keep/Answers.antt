use Rattle.std.proofs.Common.{rules, ap, ◌≡◌, ◌≤◌, ◌+◌, ◌-◌, ℕ, List, ◌++◌, length, take, min, ◌∙◌}
use Rattle.gp_flow.specs.OpenLine.{OpenLine, kept_all}
use Rattle.gp_flow.proofs.PieceLemmas.{kept_room}
use Rattle.gp_flow.proofs.open_line.OpenLine.keep.Goals as goal

pub returns-clause-kept : goal.returns-clause-kept
returns-clause-kept c =
    let limit = c.args.self.now.limit in
    let text = c.args.self.now.text in
    let octets = c.args.octets.now in
    let same : c.self.inside.text.items ≡ text = ap (λ (l : OpenLine). l.text) c.self.view_is in
    let short : length text ≤ limit + 1 = search rules in
    let count : c.min-count.result ≡ min (length octets) (limit + 1 - length text) = search rules in
    let taken : c.extend_from_slice.new.self.items ≡ c.self.inside.text.items ++ take c.min-count.result octets = rw c.unwrap.ensures at c.extend_from_slice.ensures.items in
    let kept : c.extend_from_slice.new.self.items ≡ kept_all limit text octets =
    taken ∙ ap (λ (l : List ℕ). l ++ take c.min-count.result octets) same ∙ kept_room limit text octets c.min-count.result count short in
    ap (λ (l : List ℕ). record { text = l; limit = c.self.inside.limit }) kept
    ∙ ap (λ (l : OpenLine). record { text = kept_all limit text octets; limit = l.limit }) c.self.view_is
