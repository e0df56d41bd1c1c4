use Rattle.std.proofs.Common.{◌∙◌, arith}
use Rattle.std.proofs.lemmas.Result.{err_from_is_err_and}
use Rattle.gp_audit.proofs.NameLemmas.{list_from_set, list_from_wrong}
use Rattle.gp_audit.proofs.rule_names.set_lists.Goals as goal

pub returns-in_err-set_list : goal.returns-in_err-set_list
returns-in_err-set_list c =
    let given = err_from_is_err_and c.from_residual.result c.from_residual.ensures.1 in
    rw (given.1, given.2) (c.lists.invariant ∙ list_from_wrong c.args.is_in c.lists.rules c.args.lists.now c.lists.list-index
    c.in_err-set_list.field-0.0.now (omega (arith, c.lists-test.true)) c.in_err-set_list.ensures)

pub lists-preserved : goal.lists-preserved
lists-preserved c =
    c.lists.invariant ∙ list_from_set c.args.is_in c.lists.rules c.set_list.new.rules c.args.lists.now c.lists.list-index
    (omega (arith, c.lists-test.true)) c.in_ok-set_list.ensures
