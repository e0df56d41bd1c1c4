use Rattle.gp_script.specs.Port.{port_shape}
use Rattle.gp_script.specs.View.{port_keys_view}
use Rattle.gp_script.proofs.WalkLemmas.{handed_on}
use Rattle.gp_script.proofs.ports.port_keys.Goals as goal

pub returns-in_err-has_only : goal.returns-in_err-has_only
unfolding port_shape
returns-in_err-has_only c = handed_on port_keys_view _ _ _ c.from_residual.ensures.1 (rw c.in_err-has_only.ensures)

pub returns-in_err-teqd : goal.returns-in_err-teqd
unfolding port_shape
returns-in_err-teqd c = handed_on port_keys_view _ _ _ c.from_residual-in_err-teqd.ensures.1 (rw (c.in_ok-has_only.ensures, c.in_err-teqd.ensures))

pub returns-in_err-max_units : goal.returns-in_err-max_units
unfolding port_shape
returns-in_err-max_units c = handed_on port_keys_view _ _ _ c.from_residual-in_err-max_units.ensures.1 (rw (c.in_ok-has_only.ensures, c.in_ok-teqd.ensures, c.in_err-max_units.ensures))

pub returns-in_err-alloc_last : goal.returns-in_err-alloc_last
unfolding port_shape
returns-in_err-alloc_last c = handed_on port_keys_view _ _ _ c.from_residual-in_err-alloc_last.ensures.1 (rw (c.in_ok-has_only.ensures, c.in_ok-teqd.ensures, c.in_ok-max_units.ensures, c.in_err-alloc_last.ensures))

pub returns-in_err-cycles : goal.returns-in_err-cycles
unfolding port_shape
returns-in_err-cycles c = handed_on port_keys_view _ _ _ c.from_residual-in_err-cycles.ensures.1 (rw (c.in_ok-has_only.ensures, c.in_ok-teqd.ensures, c.in_ok-max_units.ensures, c.in_ok-alloc_last.ensures, c.in_err-cycles.ensures))

pub returns-in_err-search_period : goal.returns-in_err-search_period
unfolding port_shape
returns-in_err-search_period c = handed_on port_keys_view _ _ _ c.from_residual-in_err-search_period.ensures.1 (rw (c.in_ok-has_only.ensures, c.in_ok-teqd.ensures, c.in_ok-max_units.ensures, c.in_ok-alloc_last.ensures, c.in_ok-cycles.ensures, c.in_err-search_period.ensures))

pub returns-in_err-quarantine : goal.returns-in_err-quarantine
unfolding port_shape
returns-in_err-quarantine c = handed_on port_keys_view _ _ _ c.from_residual-in_err-quarantine.ensures.1 (rw (c.in_ok-has_only.ensures, c.in_ok-teqd.ensures, c.in_ok-max_units.ensures, c.in_ok-alloc_last.ensures, c.in_ok-cycles.ensures, c.in_ok-search_period.ensures, c.in_err-quarantine.ensures))

pub returns-in_err-overhead : goal.returns-in_err-overhead
unfolding port_shape
returns-in_err-overhead c = handed_on port_keys_view _ _ _ c.from_residual-in_err-overhead.ensures.1 (rw (c.in_ok-has_only.ensures, c.in_ok-teqd.ensures, c.in_ok-max_units.ensures, c.in_ok-alloc_last.ensures, c.in_ok-cycles.ensures, c.in_ok-search_period.ensures, c.in_ok-quarantine.ensures, c.in_err-overhead.ensures))

pub returns-in_err-admit : goal.returns-in_err-admit
unfolding port_shape
returns-in_err-admit c = handed_on port_keys_view _ _ _ c.from_residual-in_err-admit.ensures.1 (rw (c.in_ok-has_only.ensures, c.in_ok-teqd.ensures, c.in_ok-max_units.ensures, c.in_ok-alloc_last.ensures, c.in_ok-cycles.ensures, c.in_ok-search_period.ensures, c.in_ok-quarantine.ensures, c.in_ok-overhead.ensures, c.in_err-admit.ensures))

pub returns-in_err-are_texts : goal.returns-in_err-are_texts
unfolding port_shape
returns-in_err-are_texts c = handed_on port_keys_view _ _ _ c.from_residual-in_err-are_texts.ensures.1 (rw (c.in_ok-has_only.ensures, c.in_ok-teqd.ensures, c.in_ok-max_units.ensures, c.in_ok-alloc_last.ensures, c.in_ok-cycles.ensures, c.in_ok-search_period.ensures, c.in_ok-quarantine.ensures, c.in_ok-overhead.ensures, c.in_ok-admit.ensures, c.in_err-are_texts.ensures))

pub returns : goal.returns
unfolding port_shape
returns c = rw (c.in_ok-has_only.ensures, c.in_ok-teqd.ensures, c.in_ok-max_units.ensures, c.in_ok-alloc_last.ensures, c.in_ok-cycles.ensures, c.in_ok-search_period.ensures, c.in_ok-quarantine.ensures, c.in_ok-overhead.ensures, c.in_ok-admit.ensures, c.in_ok-are_texts.ensures)
