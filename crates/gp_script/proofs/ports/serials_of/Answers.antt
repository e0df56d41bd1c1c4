use Rattle.std.proofs.Common.{append-nil, arith, rules, ◌∙◌, sym}
use Rattle.std.proofs.lemmas.Grind.{common_steps}
use Rattle.std.proofs.lemmas.Result.{IfOk-from_err}
use Rattle.toml.specs.View.{view}
use Rattle.gp_script.specs.Port.{all_admitted, serials_from}
use Rattle.gp_script.proofs.AdmitLemmas.{is_distinct-push, once_more}
use Rattle.gp_script.proofs.AdmissionLemmas.{admits_more, is_new, read_new}
use Rattle.gp_script.proofs.TableLemmas.{no_more}
use Rattle.gp_script.proofs.WalkLemmas.{ran_out}
use Rattle.gp_script.proofs.ports.serials_of.Goals as goal

pub texts-preserved : goal.texts-preserved
unfolding serials_from
texts-preserved c =
    let new = is_new c.texts.admitted c.args.before.now c.texts.serials.items c.in-Ok.serial c.texts.invariant.admits (λ some. let e = c.admit.ensures.duplicate.1 some in let is = c.in_default.is in cc (e, is)) in
    let reads = read_new c.args.before.now c.texts.serials.items (view c.text-item.result) c.in-Ok.serial (sym c.in-Ok.ensures) new.1 new.2 in
    record {
      value = grind (arith, common_steps);
      count = search rules;
      room = search rules;
      distinct = rw c.push_reserved.ensures.items (is_distinct-push c.texts.serials.items c.in-Ok.serial new.1 ∙ c.texts.invariant.distinct);
      once = rw c.push_reserved.ensures.items (once_more c.args.before.now c.texts.serials.items c.in-Ok.serial new.1 new.2 c.texts.invariant.once);
      admits = rw (c.push_reserved.ensures.items, c.in_default.ensures.ok) (admits_more c.texts.admitted c.args.before.now c.texts.serials.items c.in-Ok.serial c.texts.invariant.admits new.0);
    }

pub texts-init : goal.texts-init
texts-init c = record {
  value = rw c.in_ok-serials.ensures.items;
  count = c.in_ok-serials.ensures.len;
  room = c.in_ok-serials.ensures.capacity;
  distinct = rw c.in_ok-serials.ensures.items;
  once = rw (c.in_ok-serials.ensures.items, append-nil (all_admitted c.args.before.now)) c.requires.once;
  admits = rw c.in_ok-serials.ensures.items c.requires.admits;
}

pub returns-in_err-serials : goal.returns-in_err-serials
returns-in_err-serials c = record {
  value = ran_out (λ v. v.items) _ _ c.from_residual.ensures.1;
  count = IfOk-from_err _ _ c.from_residual.ensures.0;
  distinct = IfOk-from_err _ _ c.from_residual.ensures.0;
  once = IfOk-from_err _ _ c.from_residual.ensures.0;
  admits = IfOk-from_err _ _ c.from_residual.ensures.0;
}

pub returns : goal.returns
unfolding serials_from
returns c = record {
  value = rw (← c.texts.invariant.value, no_more c.args.texts.now c.texts.text-index c.texts-test.false);
  count = omega (arith, c.texts.invariant.count, c.texts-test.false, c.texts.auto.text-index-end);
  distinct = c.texts.invariant.distinct;
  once = c.texts.invariant.once;
  admits = c.texts.invariant.admits;
}
