use Rattle.std.proofs.Common.{◌≡◌, List, ℕ, [], ◌++◌, OnOk, subst, sym, rules}
use Rattle.std.proofs.lemmas.List.{nil_from_length}
use Rattle.gp_tally.specs.Ports.{CountsLine}
use Rattle.gp_tally.proofs.counter.count_whole.Goals as goal

pub returns-then-is_empty-clause-counted : goal.returns-then-is_empty-clause-counted
returns-then-is_empty-clause-counted c =
    let none : c.args.line.now.items ≡ [] = nil_from_length c.args.line.now.items (search rules) in
    subst (λ (l : List ℕ). OnOk c.count_line.result (CountsLine c.args.mask (l ++ c.args.part.now) c.args.tallies.now c.count_line.new.self)) (sym none) c.count_line.ensures.ok
