use Rattle.std.proofs.Common.{None, Some, option_map, refl}
use Rattle.std.proofs.lemmas.Result.{err_from_is_err_and}
use Rattle.gp_audit.specs.Texts.{texts}
use Rattle.gp_audit.proofs.ChosenLemmas.{taken_out, wrong_only, wrong_without}
use Rattle.gp_audit.proofs.rule_names.rules_told.Goals as goal
use Rattle.gp_audit.proofs.rule_names.rules_told.Goals.{in-Some+in_ok-set_lists, in_default}

pub returns-in_err-rules-clause-unknown : goal.returns-in_err-rules-clause-unknown
returns-in_err-rules-clause-unknown c =
    let given = err_from_is_err_and c.from_residual.result c.from_residual.ensures.1 in
    rw (given.1, given.2) (wrong_only (option_map texts c.args.only) (option_map texts c.args.without) _ c.in_err-rules.ensures)

pub returns-in_err-set_lists-clause-unknown : goal.returns-in_err-set_lists-clause-unknown
returns-in_err-set_lists-clause-unknown c =
    let given = err_from_is_err_and c.from_residual-in_err-set_lists.result c.from_residual-in_err-set_lists.ensures.1 in
    rw (given.1, given.2, c.in-Some.is) (wrong_without (option_map texts c.args.only) (Some (texts c.in-Some.lists)) c.in_ok-rules.rules _ c.in_ok-rules.ensures c.in_err-set_lists.ensures)

pub returns-clause-known : goal.returns-clause-known
returns-clause-known c =
    elim c.match-without.branch [
      | in-Some+in_ok-set_lists w ↦
          rw w.in-Some.is ((taken_out (option_map texts c.args.only) (Some (texts w.in-Some.lists)) c.in_ok-rules.rules w.set_lists.new.rules c.in_ok-rules.ensures w.in_ok-set_lists.ensures).0)
      | in_default w ↦ rw w.in_default.is ((taken_out (option_map texts c.args.only) None c.in_ok-rules.rules c.in_ok-rules.rules c.in_ok-rules.ensures refl).0)
    ]

pub returns-clause-told : goal.returns-clause-told
returns-clause-told c =
    elim c.match-without.branch [
      | in-Some+in_ok-set_lists w ↦
          rw (w.rules-is, w.in-Some.is) ((taken_out (option_map texts c.args.only) (Some (texts w.in-Some.lists)) c.in_ok-rules.rules w.set_lists.new.rules c.in_ok-rules.ensures w.in_ok-set_lists.ensures).1)
      | in_default w ↦ rw (w.rules-is, w.in_default.is) ((taken_out (option_map texts c.args.only) None c.in_ok-rules.rules c.in_ok-rules.rules c.in_ok-rules.ensures refl).1)
    ]
