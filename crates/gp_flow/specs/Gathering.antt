-- An input whose lines were answered, before what is gathered is written out (this profile's own rule).
-- Inside: no public contract cites this.
use Rattle.std.specs.Prelude.{◌≡◌, ℕ, Bool, true, List, Result}
use Rattle.gp_flow.specs.declared.fault.Unanswered.{Unanswered}
use Rattle.gp_flow.specs.declared.fault.Unanswered.TheVariants.{Write, OutOfMemory, Full}
use Rattle.gp_flow.specs.declared.fault.LinesFault.{LinesFault}
use Rattle.gp_flow.specs.declared.lines.LinesEnd.{LinesEnd}
use Rattle.gp_flow.specs.Lines.{ServesUpTo, Speech}
use Rattle.gp_stream.specs.declared.sink.WriteStopped.{WriteStopped}
use Rattle.gp_stream.specs.Sink.{SinkState, Finishes, Takes, TakesPrefix}
use Rattle.gp_stream.specs.Source.{SourceState}

-- what is handed in where a fault came; but for a failed write, whatever was written of it was flushed
abbrev pub Gathered : {W : Type 0} → Unanswered → SinkState W → SinkState W → List ℕ → Type 0
Gathered Write before after said = TakesPrefix before after said
Gathered OutOfMemory before after said = Takes before after said × (after.flushed ≡ true)
Gathered Full before after said = Takes before after said × (after.flushed ≡ true)

-- the lines of an input were answered in their order, up to the first fault
abbrev pub ServesGathered : {S R W : Type 0} → Speech S → (S → Bool) → ℕ → SourceState R → SourceState R → S → S
    → SinkState W → SinkState W → Result LinesEnd LinesFault → Type 0
ServesGathered does over limit from to old new before after answer =
    ServesUpTo Gathered does over limit from to old new before after answer

-- what is gathered where a fault came is written out, with this answer; after a failed write nothing is
abbrev pub WritesOut : {W : Type 0} → Unanswered → SinkState W → SinkState W → Result (Unit {0}) WriteStopped → Type 0
WritesOut Write before after written = after ≡ before
WritesOut OutOfMemory before after written = Finishes before after written
WritesOut Full before after written = Finishes before after written
