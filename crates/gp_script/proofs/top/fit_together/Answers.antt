use Rattle.std.proofs.Common.{◌≡◌, ◌<◌, ◌≤◌, [], true, length, ap, sym, ◌∙◌, arith}
use Rattle.std.proofs.Math.Dec.{leb}
use Rattle.std.proofs.lemmas.Bool.{false≢true, leb-true}
use Rattle.gp_script.proofs.ItemsLemmas.{item_count_view, none_by_view}
use Rattle.gp_script.proofs.WalkLemmas.{needed, where_needed}
use Rattle.gp_script.proofs.top.fit_together.Goals as goal

pub returns-then-is_empty-2 : goal.returns-then-is_empty-2
returns-then-is_empty-2 c =
    let no_units : c.args.units.now ≡ [] = none_by_view c.args.units.now (sym c.if-is_empty.ensures) in
    let no_losses : c.args.losses.now ≡ [] = none_by_view c.args.losses.now (sym c.if-is_empty-2.ensures) in
    record {
      value = rw (← c.if-is_empty.ensures, ← c.if-is_empty-2.ensures);
      one_port = λ some. omega (arith, ap (λ units. length units) no_units);
      no_units = λ without. (no_units, no_losses);
    }

pub returns-else-is_empty-2 : goal.returns-else-is_empty-2
returns-else-is_empty-2 c = record {
  value = rw (← c.if-is_empty.ensures, ← c.if-is_empty-2.ensures, c.wanted_at.ensures);
  one_port = tt;
  no_units = λ without. tt;
}

pub returns-then-may_have_units : goal.returns-then-may_have_units
returns-then-may_have_units c =
    let ports = c.args.ports.now in
    let one : leb (length ports) 1 ≡ true → 0 < length c.args.units.now → length ports ≤ 1 = λ test some. leb-true (length ports) 1 test in
    record {
      value = rw (← c.if-is_empty.ensures, c.if-may_have_units.true, item_count_view ports, c.needs.ensures) (needed _ _);
      one_port = rw c.needs.ensures (where_needed _ _ _ one);
      no_units = λ without. absurd (false≢true (sym without ∙ c.if-may_have_units.true));
    }

pub returns-else-may_have_units : goal.returns-else-may_have_units
returns-else-may_have_units c = record {
  value = rw (← c.if-is_empty.ensures, c.if-may_have_units.false, c.wanted_at-else-may_have_units.ensures);
  one_port = tt;
  no_units = λ without. tt;
}
