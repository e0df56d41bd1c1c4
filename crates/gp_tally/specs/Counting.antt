-- A writer that counts what it passes on (this profile's own rule).
use Rattle.gp_tally.specs.Counter.{CounterState}

-- its counter, and the writer below
pub record CountingState (W : Type 0) : Type 0 where
  pub counter : CounterState
  pub inner : W
