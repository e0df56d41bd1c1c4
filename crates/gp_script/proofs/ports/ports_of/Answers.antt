use Rattle.std.proofs.Common.{◌≡◌, IsTrue, sym, arith, rules}
use Rattle.std.proofs.lemmas.Grind.{common_steps}
use Rattle.std.proofs.lemmas.List.Elements.{All-push}
use Rattle.std.proofs.lemmas.Result.{IfOk-from_err}
use Rattle.toml.specs.View.{table_view}
use Rattle.gp_machine.specs.Config.{is_within_limits}
use Rattle.gp_script.specs.Port.{ports_from}
use Rattle.gp_script.proofs.AdmitLemmas.{all_admitted-push}
use Rattle.gp_script.proofs.AdmissionLemmas.{admits_none, admits_port}
use Rattle.gp_script.proofs.TableLemmas.{no_more, table_at}
use Rattle.gp_script.proofs.WalkLemmas.{ran_out, stopped, walked_on}
use Rattle.gp_script.proofs.ports.ports_of.Goals as goal

pub tables-preserved : goal.tables-preserved
unfolding ports_from
tables-preserved c = record {
  value = grind (arith, common_steps);
  count = search rules;
  room = search rules;
  limits = rw c.push_reserved.ensures.items (All-push (λ port. IsTrue (is_within_limits port)) c.tables.ports.items c.in_ok-port.port c.tables.invariant.limits c.in_ok-port.ensures.limits);
  mask = rw c.push_reserved.ensures.items (All-push (λ port. port.mask ≡ c.args.mask) c.tables.ports.items c.in_ok-port.port c.tables.invariant.mask c.in_ok-port.ensures.mask);
  once = rw (c.push_reserved.ensures.items, all_admitted-push c.tables.ports.items c.in_ok-port.port) (rw c.as_slice.ensures.value at c.in_ok-port.ensures.once);
  admits = rw c.push_reserved.ensures.items (admits_port _ c.tables.ports.items c.in_ok-port.port (rw c.as_slice.ensures.value at c.in_ok-port.ensures.admits));
}

pub tables-init : goal.tables-init
tables-init c = record {
  value = search rules;
  count = search rules;
  room = search rules;
  limits = search rules;
  mask = search rules;
  once = search rules;
  admits = rw (c.new-admitted.ensures, c.in_ok-ports.ensures.items) admits_none;
}

pub returns-in_default-clause-value : goal.returns-in_default-clause-value
unfolding ports_from
returns-in_default-clause-value c = grind (arith, common_steps)

pub returns-in_err-ports : goal.returns-in_err-ports
returns-in_err-ports c = record {
  value = ran_out (λ v. v.items) _ _ c.from_residual.ensures.1;
  count = IfOk-from_err _ _ c.from_residual.ensures.0;
  limits = IfOk-from_err _ _ c.from_residual.ensures.0;
  once = IfOk-from_err _ _ c.from_residual.ensures.0;
  mask = IfOk-from_err _ _ c.from_residual.ensures.0;
}

pub returns-in_err-port : goal.returns-in_err-port
unfolding ports_from
returns-in_err-port c = record {
  value =
      walked_on (λ v. v.items) _ _ _ c.from_residual-in_err-port.ensures.1
      (rw (
        ← c.tables.invariant.value,
        table_at c.args.tables.now c.tables.value-index c.value-item.result (table_view c.in-Some.table.now) c.tables-test.true c.value-item.is (sym c.in-Some.ensures),
      )
      (stopped _ _ _ (rw c.as_slice.ensures.value at c.in_err-port.ensures.value)));
  count = IfOk-from_err _ _ c.from_residual-in_err-port.ensures.0;
  limits = IfOk-from_err _ _ c.from_residual-in_err-port.ensures.0;
  once = IfOk-from_err _ _ c.from_residual-in_err-port.ensures.0;
  mask = IfOk-from_err _ _ c.from_residual-in_err-port.ensures.0;
}

pub returns : goal.returns
unfolding ports_from
returns c = record {
  value = rw (← c.tables.invariant.value, no_more c.args.tables.now c.tables.value-index c.tables-test.false);
  count = omega (arith, c.tables.invariant.count, c.tables-test.false, c.tables.auto.value-index-end);
  limits = c.tables.invariant.limits;
  once = c.tables.invariant.once;
  mask = c.tables.invariant.mask;
}
