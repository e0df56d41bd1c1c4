use Rattle.std.proofs.Common.{◌≡◌}
use Rattle.gp_audit.specs.Naming.{names_left, names_set, octets_left}
use Rattle.gp_audit.specs.Texts.{names_of}
use Rattle.gp_audit.proofs.rule_names.set_list.Given as goal

-- what is left is set in what is set so far
abbrev pub invariant-names : goal.invariant-names
invariant-names l = names_set l.is_in l.fn.rules (names_of l.fn.list) ≡ names_set l.is_in l.rules (names_left l.left)

abbrev pub decreases-names : goal.decreases-names
decreases-names l = octets_left l.left
