-- What an answer of the chassis behind a handle says to the one who asked.
-- Inside: no public contract cites this.
use Rattle.std.specs.Prelude.{ℕ, Result, Ok, Err}
use Rattle.gp_c.specs.declared.answer.AnswerNumbers.{AnswerNumbers}
use Rattle.gp_c.specs.declared.counts.PortCounts.{PortCounts}
use Rattle.gp_c.specs.declared.row.RowNumbers.{RowNumbers}
use Rattle.gp_c.specs.declared.fault.Fault.{Fault}
use Rattle.gp_c.specs.declared.kept.KeptEntry.{KeptEntry}
use Rattle.gp_c.specs.declared.fault.Fault.TheVariants.{NotOpen}
use Rattle.gp_c.specs.declared.op.Out.{Out}
use Rattle.gp_c.specs.declared.op.Out.TheVariants.{Done, Answered, Shown, Counted, Tallied, Kept}

-- to opening, closing or cutting
abbrev pub done_of : Out → Result Unit Fault
done_of (Done done) = done
done_of _ = Err NotOpen

-- to an event
abbrev pub answered_of : Out → Result AnswerNumbers Fault
answered_of (Answered answered) = answered
answered_of _ = Err NotOpen

-- to a question for a unit
abbrev pub shown_of : Out → Result RowNumbers Fault
shown_of (Shown shown) = shown
shown_of _ = Err NotOpen

-- to a question for the free licences
abbrev pub counted_of : Out → Result ℕ Fault
counted_of (Counted count) = Ok count
counted_of _ = Err NotOpen

-- to a question for a port's counts
abbrev pub tallied_of : Out → Result PortCounts Fault
tallied_of (Tallied counts) = counts
tallied_of _ = Err NotOpen

-- to a question for an entry
abbrev pub kept_of : Out → Result KeptEntry Fault
kept_of (Kept kept) = kept
kept_of _ = Err NotOpen
