use Rattle.std.proofs.Common.{rules, w64, SFits}
use Rattle.std.proofs.lemmas.Int.{to_z-of_z}
use Rattle.std.proofs.lemmas.Result.{IfOk-from_err}
use Rattle.gp_script.specs.Script.{top_shape}
use Rattle.gp_script.specs.View.{top_keys_view}
use Rattle.gp_script.proofs.WalkLemmas.{handed_on}
use Rattle.gp_script.proofs.top.top_keys.Goals as goal

pub returns-in_err-has_only : goal.returns-in_err-has_only
unfolding top_shape
returns-in_err-has_only c = record {
  value = handed_on top_keys_view _ _ _ c.from_residual.ensures.1 (rw c.in_err-has_only.ensures);
  one_port = IfOk-from_err _ _ c.from_residual.ensures.0;
  no_units = λ without. IfOk-from_err _ _ c.from_residual.ensures.0;
}

pub returns-in_err-licences : goal.returns-in_err-licences
unfolding top_shape
returns-in_err-licences c = record {
  value = handed_on top_keys_view _ _ _ c.from_residual-in_err-licences.ensures.1 (rw (c.in_ok-has_only.ensures, c.in_err-licences.ensures));
  one_port = IfOk-from_err _ _ c.from_residual-in_err-licences.ensures.0;
  no_units = λ without. IfOk-from_err _ _ c.from_residual-in_err-licences.ensures.0;
}

pub returns-in_err-mask : goal.returns-in_err-mask
unfolding top_shape
returns-in_err-mask c = record {
  value = handed_on top_keys_view _ _ _ c.from_residual-in_err-mask.ensures.1 (rw (c.in_ok-has_only.ensures, c.in_ok-licences.ensures, c.in_err-mask.ensures));
  one_port = IfOk-from_err _ _ c.from_residual-in_err-mask.ensures.0;
  no_units = λ without. IfOk-from_err _ _ c.from_residual-in_err-mask.ensures.0;
}

pub returns-in_err-journal_limit : goal.returns-in_err-journal_limit
unfolding top_shape
returns-in_err-journal_limit c = record {
  value = handed_on top_keys_view _ _ _ c.from_residual-in_err-journal_limit.ensures.1 (rw (c.in_ok-has_only.ensures, c.in_ok-licences.ensures, c.in_ok-mask.ensures, c.in_err-journal_limit.ensures));
  one_port = IfOk-from_err _ _ c.from_residual-in_err-journal_limit.ensures.0;
  no_units = λ without. IfOk-from_err _ _ c.from_residual-in_err-journal_limit.ensures.0;
}

pub returns-in_err-ports : goal.returns-in_err-ports
unfolding top_shape
returns-in_err-ports c = record {
  value = handed_on top_keys_view _ _ _ c.from_residual-in_err-ports.ensures.1 (rw (c.in_ok-has_only.ensures, c.in_ok-licences.ensures, c.in_ok-mask.ensures, c.in_ok-journal_limit.ensures, c.in_err-ports.ensures));
  one_port = IfOk-from_err _ _ c.from_residual-in_err-ports.ensures.0;
  no_units = λ without. IfOk-from_err _ _ c.from_residual-in_err-ports.ensures.0;
}

pub returns-in_err-units : goal.returns-in_err-units
unfolding top_shape
returns-in_err-units c = record {
  value = handed_on top_keys_view _ _ _ c.from_residual-in_err-units.ensures.1 (rw (c.in_ok-has_only.ensures, c.in_ok-licences.ensures, c.in_ok-mask.ensures, c.in_ok-journal_limit.ensures, c.in_ok-ports.ensures, c.in_err-units.ensures));
  one_port = IfOk-from_err _ _ c.from_residual-in_err-units.ensures.0;
  no_units = λ without. IfOk-from_err _ _ c.from_residual-in_err-units.ensures.0;
}

pub returns-in_err-losses : goal.returns-in_err-losses
unfolding top_shape
returns-in_err-losses c = record {
  value = handed_on top_keys_view _ _ _ c.from_residual-in_err-losses.ensures.1 (rw (c.in_ok-has_only.ensures, c.in_ok-licences.ensures, c.in_ok-mask.ensures, c.in_ok-journal_limit.ensures, c.in_ok-ports.ensures, c.in_ok-units.ensures, c.in_err-losses.ensures));
  one_port = IfOk-from_err _ _ c.from_residual-in_err-losses.ensures.0;
  no_units = λ without. IfOk-from_err _ _ c.from_residual-in_err-losses.ensures.0;
}

pub returns-in_err-events : goal.returns-in_err-events
unfolding top_shape
returns-in_err-events c = record {
  value = handed_on top_keys_view _ _ _ c.from_residual-in_err-events.ensures.1 (rw (c.in_ok-has_only.ensures, c.in_ok-licences.ensures, c.in_ok-mask.ensures, c.in_ok-journal_limit.ensures, c.in_ok-ports.ensures, c.in_ok-units.ensures, c.in_ok-losses.ensures, c.in_err-events.ensures));
  one_port = IfOk-from_err _ _ c.from_residual-in_err-events.ensures.0;
  no_units = λ without. IfOk-from_err _ _ c.from_residual-in_err-events.ensures.0;
}

pub returns-in_err-are_tables : goal.returns-in_err-are_tables
unfolding top_shape
returns-in_err-are_tables c = record {
  value = handed_on top_keys_view _ _ _ c.from_residual-in_err-are_tables.ensures.1 (rw (c.in_ok-has_only.ensures, c.in_ok-licences.ensures, c.in_ok-mask.ensures, c.in_ok-journal_limit.ensures, c.in_ok-ports.ensures, c.in_ok-units.ensures, c.in_ok-losses.ensures, c.in_ok-events.ensures, c.in_err-are_tables.ensures));
  one_port = IfOk-from_err _ _ c.from_residual-in_err-are_tables.ensures.0;
  no_units = λ without. IfOk-from_err _ _ c.from_residual-in_err-are_tables.ensures.0;
}

pub returns-in_err-are_tables-2 : goal.returns-in_err-are_tables-2
unfolding top_shape
returns-in_err-are_tables-2 c = record {
  value = handed_on top_keys_view _ _ _ c.from_residual-in_err-are_tables-2.ensures.1 (rw (c.in_ok-has_only.ensures, c.in_ok-licences.ensures, c.in_ok-mask.ensures, c.in_ok-journal_limit.ensures, c.in_ok-ports.ensures, c.in_ok-units.ensures, c.in_ok-losses.ensures, c.in_ok-events.ensures, c.in_ok-are_tables.ensures, c.in_err-are_tables-2.ensures));
  one_port = IfOk-from_err _ _ c.from_residual-in_err-are_tables-2.ensures.0;
  no_units = λ without. IfOk-from_err _ _ c.from_residual-in_err-are_tables-2.ensures.0;
}

pub returns-in_err-are_tables-3 : goal.returns-in_err-are_tables-3
unfolding top_shape
returns-in_err-are_tables-3 c = record {
  value = handed_on top_keys_view _ _ _ c.from_residual-in_err-are_tables-3.ensures.1 (rw (c.in_ok-has_only.ensures, c.in_ok-licences.ensures, c.in_ok-mask.ensures, c.in_ok-journal_limit.ensures, c.in_ok-ports.ensures, c.in_ok-units.ensures, c.in_ok-losses.ensures, c.in_ok-events.ensures, c.in_ok-are_tables.ensures, c.in_ok-are_tables-2.ensures, c.in_err-are_tables-3.ensures));
  one_port = IfOk-from_err _ _ c.from_residual-in_err-are_tables-3.ensures.0;
  no_units = λ without. IfOk-from_err _ _ c.from_residual-in_err-are_tables-3.ensures.0;
}

pub returns-in_err-are_tables-4 : goal.returns-in_err-are_tables-4
unfolding top_shape
returns-in_err-are_tables-4 c = record {
  value = handed_on top_keys_view _ _ _ c.from_residual-in_err-are_tables-4.ensures.1 (rw (c.in_ok-has_only.ensures, c.in_ok-licences.ensures, c.in_ok-mask.ensures, c.in_ok-journal_limit.ensures, c.in_ok-ports.ensures, c.in_ok-units.ensures, c.in_ok-losses.ensures, c.in_ok-events.ensures, c.in_ok-are_tables.ensures, c.in_ok-are_tables-2.ensures, c.in_ok-are_tables-3.ensures, c.in_err-are_tables-4.ensures));
  one_port = IfOk-from_err _ _ c.from_residual-in_err-are_tables-4.ensures.0;
  no_units = λ without. IfOk-from_err _ _ c.from_residual-in_err-are_tables-4.ensures.0;
}

pub returns-in_err-fit_together : goal.returns-in_err-fit_together
unfolding top_shape
returns-in_err-fit_together c = record {
  value = handed_on top_keys_view _ _ _ c.from_residual-in_err-fit_together.ensures.1 (rw (c.in_ok-has_only.ensures, c.in_ok-licences.ensures, c.in_ok-mask.ensures, c.in_ok-journal_limit.ensures, c.in_ok-ports.ensures, c.in_ok-units.ensures, c.in_ok-losses.ensures, c.in_ok-events.ensures, c.in_ok-are_tables.ensures, c.in_ok-are_tables-2.ensures, c.in_ok-are_tables-3.ensures, c.in_ok-are_tables-4.ensures, c.in_err-fit_together.ensures.value));
  one_port = IfOk-from_err _ _ c.from_residual-in_err-fit_together.ensures.0;
  no_units = λ without. IfOk-from_err _ _ c.from_residual-in_err-fit_together.ensures.0;
}

pub returns : goal.returns
unfolding top_shape
returns c =
    let fits : SFits w64 c.in_ok-licences.licences = search rules in
    record {
      value = rw (c.in_ok-has_only.ensures, c.in_ok-licences.ensures, c.in_ok-mask.ensures, c.in_ok-journal_limit.ensures, c.in_ok-ports.ensures, c.in_ok-units.ensures, c.in_ok-losses.ensures, c.in_ok-events.ensures, c.in_ok-are_tables.ensures, c.in_ok-are_tables-2.ensures, c.in_ok-are_tables-3.ensures, c.in_ok-are_tables-4.ensures, c.in_ok-fit_together.ensures.value, to_z-of_z w64 c.in_ok-licences.licences fits);
      one_port = c.in_ok-fit_together.ensures.one_port;
      no_units = c.in_ok-fit_together.ensures.no_units;
    }
