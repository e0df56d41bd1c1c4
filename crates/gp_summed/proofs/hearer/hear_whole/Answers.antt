use Rattle.std.proofs.Common.{◌≡◌, List, ℕ, [], ◌++◌, OnOk, subst, sym, rules}
use Rattle.std.proofs.lemmas.List.{nil_from_length}
use Rattle.gp_audit.specs.Listening.{HearsLine}
use Rattle.gp_summed.proofs.hearer.hear_whole.Goals as goal

pub returns-then-is_empty-clause-heard : goal.returns-then-is_empty-clause-heard
returns-then-is_empty-clause-heard c =
    let none : c.args.line.now.items ≡ [] = nil_from_length c.args.line.now.items (search rules) in
    subst (λ (l : List ℕ). OnOk c.hear.result (HearsLine c.args.listener.now.mask (l ++ c.args.part.now) c.args.listener.now.ports c.hear.new.self.ports)) (sym none) c.hear.ensures.heard
