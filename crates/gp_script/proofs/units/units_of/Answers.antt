use Rattle.std.proofs.Common.{◌∙◌, IsTrue, sym, ap, rules}
use Rattle.std.proofs.lemmas.List.Elements.{All-push}
use Rattle.toml.specs.View.{table_view}
use Rattle.gp_script.specs.Unit.{is_unit_within_limits, units_from}
use Rattle.gp_script.proofs.UnitsLemmas.{next_unit}
use Rattle.gp_script.proofs.TableLemmas.{table_at}
use Rattle.gp_script.proofs.units.units_of.Goals as goal

pub tables-preserved : goal.tables-preserved
tables-preserved c = record {
  value =
      rw c.push_reserved.ensures.items
      (next_unit c.tables.units.items (table_view c.in-Some.table.now) _ c.in-Ok.unit c.in-Ok.ensures.value
      ∙ ap (units_from c.tables.units.items) (sym (table_at c.args.tables.now c.tables.value-index c.value-item.result (table_view c.in-Some.table.now) c.tables-test.true c.value-item.is (sym c.in-Some.ensures)))
      ∙ c.tables.invariant.value);
  count = search rules;
  room = search rules;
  limits = rw c.push_reserved.ensures.items (All-push (λ unit. IsTrue (is_unit_within_limits unit)) c.tables.units.items c.in-Ok.unit c.tables.invariant.limits c.in-Ok.ensures.limits);
}
