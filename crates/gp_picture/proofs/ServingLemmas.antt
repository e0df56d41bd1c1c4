-- Lines that are handed to a drawer.
use Rattle.std.proofs.Common.{◌≡◌, ℕ, List, Option, None, Some, Result, Ok, Err, IsErrAnd, inl, inr, refl, sym, subst}
use Rattle.gp_flow.specs.declared.fault.Unanswered.{Unanswered}
use Rattle.gp_flow.specs.Lines.{Answers}
use Rattle.gp_flow.proofs.AnswerLemmas.{no_memory, no_room, silent_answers}
use Rattle.gp_stream.specs.Sink.{SinkState}
use Rattle.gp_explain.specs.declared.fault.NoLine.{NoLine}
use Rattle.gp_explain.specs.declared.fault.NoLine.TheVariants.{NotALine}
use Rattle.gp_log.specs.declared.fault.LogFault.{LogFault}
use Rattle.gp_log.specs.declared.line.LogLine.{LogLine}
use Rattle.gp_log.specs.Line.{Reads}
use Rattle.line_columns.specs.Layout.{LayoutState, plain_of}
use Rattle.gp_times.specs.Lines.{IsUnread}
use Rattle.gp_picture.specs.declared.fault.PictureFault.{PictureFault}
use Rattle.gp_picture.specs.declared.fault.PictureFault.TheVariants as drawn
use Rattle.gp_picture.specs.Faults.{DrawingFails, undrawn}
use Rattle.gp_picture.specs.Drawing.{DrawState, Drawing, DrawsFrom, TellsBurst, counted, ended_by}

-- a line that is none ends it
pub refused_line : {W : Type 0} (old new : DrawState) (text : List ℕ) (before : SinkState W) → old.ended ≡ None → IsUnread (plain_of old.layout text) → new ≡ ended_by NotALine old
    → Answers {T = Unit {0}} Drawing (Some text) old new before before (Ok tt)
refused_line old new text before none unread same =
    silent_answers Drawing (Some text) old new before (tt {0})
    (refl, subst (λ (e : Option NoLine). DrawsFrom e old (Some text) new) (sym none) (inr (unread, same)))

-- a line that is read is drawn
pub drawn_line : {W : Type 0} (old new : DrawState) (text : List ℕ) (line : LogLine) (before : SinkState W) → old.ended ≡ None → Reads (plain_of old.layout text) (Ok line)
    → new ≡ counted line old → Answers {T = Unit {0}} Drawing (Some text) old new before before (Ok tt)
drawn_line old new text line before none reads same =
    silent_answers Drawing (Some text) old new before (tt {0})
    (refl, subst (λ (e : Option NoLine). DrawsFrom e old (Some text) new) (sym none) (inl (line, reads, same)))

-- by the result of reading it, a line is read
pub read_as : (layout : LayoutState) (text plain : List ℕ) (read : Result LogLine LogFault) (line : LogLine) → plain ≡ plain_of layout text → read ≡ Ok line → Reads plain read
    → Reads (plain_of layout text) (Ok line)
read_as layout text plain read line made is reads =
    subst (λ (t : List ℕ). Reads t (Ok line)) made (subst (λ (r : Result LogLine LogFault). Reads plain r) is reads)

-- or not
pub unread_as : (layout : LayoutState) (text plain : List ℕ) (read : Result LogLine LogFault) (fault : LogFault) → plain ≡ plain_of layout text → read ≡ Err fault → Reads plain read
    → IsUnread (plain_of layout text)
unread_as layout text plain read fault made is reads =
    (fault, subst (λ (t : List ℕ). Reads t (Err fault)) made (subst (λ (r : Result LogLine LogFault). Reads plain r) is reads))

-- a line that can't be drawn
pub undrawn_line : {W : Type 0} (old new : DrawState) (text : List ℕ) (line : LogLine) (before : SinkState W) (fault : PictureFault) (r : Result (Unit {0}) Unanswered)
    → IsErrAnd r (λ f. f ≡ undrawn fault) → old.ended ≡ None → Reads (plain_of old.layout text) (Ok line) → DrawingFails (TellsBurst line) fault → Answers Drawing (Some text) old new before before r
undrawn_line old new text line before fault (Ok x) told none reads fails = absurd told
undrawn_line old new text line before drawn.OutOfMemory (Err f) told none reads fails =
    subst (λ (e : Unanswered). Answers {T = Unit {0}} Drawing (Some text) old new before before (Err e)) (sym told) (no_memory Drawing (Some text) old new before)
undrawn_line old new text line before drawn.Full (Err f) told none reads fails =
    subst (λ (e : Unanswered). Answers {T = Unit {0}} Drawing (Some text) old new before before (Err e)) (sym told)
    (no_room Drawing (Some text) old new before (none, inr (line, reads, fails)))
