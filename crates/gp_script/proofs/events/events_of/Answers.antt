use Rattle.std.proofs.Common.{◌∙◌, sym, ap, append-nil, arith, rules}
use Rattle.std.proofs.lemmas.List.Elements.{All-push}
use Rattle.std.proofs.lemmas.Result.{IfOk-from_err}
use Rattle.toml.specs.Data.{Items}
use Rattle.toml.specs.View.{table_view, view}
use Rattle.gp_script.specs.Event.{events_from}
use Rattle.gp_script.specs.View.{NamesOneOf}
use Rattle.gp_script.proofs.EventsLemmas.{bad_event, behind, behind_nothing, next_event, no_event}
use Rattle.gp_script.proofs.TableLemmas.{item_at, no_more, table_at}
use Rattle.gp_script.proofs.WalkLemmas.{ran_out}
use Rattle.gp_script.proofs.events.events_of.Goals as goal

pub tables-preserved : goal.tables-preserved
tables-preserved c = record {
  value =
      rw c.push_reserved.ensures.items
      (next_event c.tables.events.items c.tables.value-index c.args.ports c.args.units c.args.mask (table_view c.in-Some.table.now) _ c.in-Ok.event c.in-Ok.ensures.value
      ∙ ap (λ (ds : Items). behind c.tables.events.items (events_from c.tables.value-index c.args.ports c.args.units c.args.mask ds)) (sym (table_at c.args.tables.now c.tables.value-index c.value-item.result (table_view c.in-Some.table.now) c.tables-test.true c.value-item.is (sym c.in-Some.ensures)))
      ∙ c.tables.invariant.value);
  names = rw c.push_reserved.ensures.items (All-push (λ e. NamesOneOf c.args.ports c.args.units e) c.tables.events.items c.in-Ok.event c.tables.invariant.names c.in-Ok.ensures.names);
  count = search rules;
  room = search rules;
}

pub tables-init : goal.tables-init
tables-init c = record {
  value = rw c.in_ok-events.ensures.items (behind_nothing _);
  names = rw c.in_ok-events.ensures.items (λ k d below. absurd (omega arith));
  count = c.in_ok-events.ensures.len;
  room = c.in_ok-events.ensures.capacity;
}

pub returns-in-Err : goal.returns-in-Err
returns-in-Err c = record {
  value =
      rw (
        ← c.tables.invariant.value,
        table_at c.args.tables.now c.tables.value-index c.value-item.result (table_view c.in-Some.table.now) c.tables-test.true c.value-item.is (sym c.in-Some.ensures),
        bad_event c.tables.value-index c.args.ports c.args.units c.args.mask (table_view c.in-Some.table.now) _ _ c.in-Err.ensures.value,
        c.len-in-Err.ensures,
        c.tables.invariant.count,
      );
  names = tt;
  count = tt;
}

pub returns-in_default : goal.returns-in_default
returns-in_default c = record {
  value =
      rw (
        c.no_table.ensures,
        ← c.tables.invariant.value,
        item_at c.args.tables.now c.tables.value-index c.value-item.result c.tables-test.true c.value-item.is,
        no_event c.tables.value-index c.args.ports c.args.units c.args.mask (view c.value-item.result) _ (sym c.in_default.ensures),
        c.len.ensures,
        c.tables.invariant.count,
      );
  names = tt;
  count = tt;
}

pub returns-in_err-events : goal.returns-in_err-events
returns-in_err-events c = record {
  value = ran_out (λ v. v.items) _ _ c.from_residual.ensures.1;
  names = IfOk-from_err _ _ c.from_residual.ensures.0;
  count = IfOk-from_err _ _ c.from_residual.ensures.0;
}

pub returns : goal.returns
unfolding events_from
returns c = record {
  value = rw (← c.tables.invariant.value, no_more c.args.tables.now c.tables.value-index c.tables-test.false, append-nil c.tables.events.items);
  names = c.tables.invariant.names;
  count = omega (arith, c.tables.invariant.count, c.tables-test.false, c.tables.auto.value-index-end);
}
