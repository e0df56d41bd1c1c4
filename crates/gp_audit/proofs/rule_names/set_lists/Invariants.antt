use Rattle.std.proofs.Common.{◌≡◌, drop, map}
use Rattle.gp_audit.specs.Naming.{names_set}
use Rattle.gp_audit.specs.Texts.{names_in}
use Rattle.gp_audit.proofs.rule_names.set_lists.Given as goal

-- the lists that are left are set in what is set so far
abbrev pub invariant-lists : goal.invariant-lists
invariant-lists l =
    names_set l.is_in l.fn.rules (names_in (map (λ word. word.now) l.lists)) ≡ names_set l.is_in l.rules (names_in (drop l.list-index (map (λ word. word.now) l.lists)))
