use Rattle.std.proofs.Common.{◌+◌, ◌∙◌, drop, refl, sym, ap, rules}
use Rattle.toml.specs.View.{items_view, table_view, view}
use Rattle.gp_script.specs.Lose.{LossesView, losses_from}
use Rattle.gp_script.specs.View.{losses_view}
use Rattle.gp_script.proofs.LoseLemmas.{bad_loss, next_loss, no_loss}
use Rattle.gp_script.proofs.TableLemmas.{item_at, no_more, table_at}
use Rattle.gp_script.proofs.lose.losses_of.Goals as goal

pub tables-preserved : goal.tables-preserved
tables-preserved c = record {
  value =
      ap (λ (l : LossesView). losses_from (c.tables.value-index + 1) l (items_view (drop (c.tables.value-index + 1) c.args.tables.now))) c.in_ok-add.ensures
      ∙ next_loss c.tables.value-index (losses_view c.tables.losses) (table_view c.in-Some.table.now) _ c.in-Ok.loss c.in-Ok.ensures
      ∙ ap (losses_from c.tables.value-index (losses_view c.tables.losses)) (sym (table_at c.args.tables.now c.tables.value-index c.value-item.result (table_view c.in-Some.table.now) c.tables-test.true c.value-item.is (sym c.in-Some.ensures)))
      ∙ c.tables.invariant.value;
  place = search rules;
}

pub tables-init : goal.tables-init
tables-init c = record { value = rw (c.new.ensures.items, c.new-2.ensures.items); place = refl }

pub returns-in-Err : goal.returns-in-Err
returns-in-Err c =
    rw (
      ← c.tables.invariant.value,
      table_at c.args.tables.now c.tables.value-index c.value-item.result (table_view c.in-Some.table.now) c.tables-test.true c.value-item.is (sym c.in-Some.ensures),
      bad_loss c.tables.value-index (losses_view c.tables.losses) (table_view c.in-Some.table.now) _ _ c.in-Err.ensures,
      c.tables.invariant.place,
    )

pub returns-in_default : goal.returns-in_default
returns-in_default c =
    rw (
      c.no_table.ensures,
      ← c.tables.invariant.value,
      item_at c.args.tables.now c.tables.value-index c.value-item.result c.tables-test.true c.value-item.is,
      no_loss c.tables.value-index (losses_view c.tables.losses) (view c.value-item.result) _ (sym c.in_default.ensures),
      c.tables.invariant.place,
    )

pub returns : goal.returns
unfolding losses_from
returns c = rw (← c.tables.invariant.value, no_more c.args.tables.now c.tables.value-index c.tables-test.false)
