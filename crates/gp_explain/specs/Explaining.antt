-- What is said to the lines of a trace (this profile's own rule).
use Rattle.std.specs.Prelude.{◌≡◌, ℕ, ◌+◌, ◌⊎◌, Bool, List, [], Option, None, Some, is_some}
use Rattle.gp_flow.specs.Lines.{Speech, WholeLines, most_lines}
use Rattle.gp_explain.specs.declared.fault.NoLine.{NoLine}
use Rattle.gp_explain.specs.declared.fault.NoLine.TheVariants.{NotALine, TooLong}
use Rattle.gp_explain.specs.Words.{IsTraceLine}
use Rattle.gp_explain.specs.Telling.{Manner, TellsTraceLine}

-- where it stands: what the next line is told by, how many lines came, and why the last of them ended it, if it did
pub record ExplainState : Type 0 where
  pub manner : Manner
  pub lines : ℕ
  pub ended : Option NoLine

-- before the first line
abbrev pub opened_explain : Manner → ExplainState
opened_explain manner = record { manner = manner; lines = 0; ended = None }

-- one line more came, and this is what the next one is told by
abbrev pub counted : Manner → ExplainState → ExplainState
counted next state = record state { manner = next; lines = state.lines + 1 }

-- one line more came, which is no line of a trace
abbrev pub ended_by : NoLine → ExplainState → ExplainState
ended_by why state = record state { lines = state.lines + 1; ended = Some why }

-- a line of a trace is told; any other line ends it, and nothing is said to it
abbrev pub SaysToText : ExplainState → List ℕ → List ℕ → ExplainState → Type 0
SaysToText old text said new =
    ((next : Manner) × TellsTraceLine old.manner text said next × (new ≡ counted next old))
    ⊎ ((IsTraceLine text → ⊥) × (said ≡ []) × (new ≡ ended_by NotALine old))

-- by what ended it before: nothing is said any more; a line that is too long ends it
abbrev pub SaysFrom : Option NoLine → ExplainState → Option (List ℕ) → List ℕ → ExplainState → Type 0
SaysFrom (Some why) old line said new = (said ≡ []) × (new ≡ old)
SaysFrom None old None said new = (said ≡ []) × (new ≡ ended_by TooLong old)
SaysFrom None old (Some text) said new = SaysToText old text said new

-- what is said to a line
abbrev pub Explains : ExplainState → Option (List ℕ) → List ℕ → ExplainState → Type 0
Explains old line said new = SaysFrom old.ended old line said new

-- why no more lines can be taken: it has not ended, and so many have come as can be counted
abbrev pub IsFull : ExplainState → Option (List ℕ) → Type 0
IsFull state line = (state.ended ≡ None) × (state.lines ≡ most_lines)

-- what is said to lines, each of which is answered whole or not at all
abbrev pub Explaining : Speech ExplainState
Explaining = WholeLines IsFull Explains

-- it has ended
abbrev pub has_ended : ExplainState → Bool
has_ended state = is_some state.ended
