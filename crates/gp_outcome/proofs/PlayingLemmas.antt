-- How the trace of a play compares.
use Rattle.std.proofs.Common.{◌≡◌, ◌<◌, ◌++◌, ℕ, List, [], Option, None, Some, IfSome, Result, Ok, Err, refl, sym, ap, ◌∙◌, subst, length, arith}
use Rattle.std.specs.Io.KnownBytes.{Appends}
use Rattle.gp_script.specs.Script.{ScriptView}
use Rattle.gp_stream.specs.Sink.{SinkState}
use Rattle.gp_trace.specs.Text.{trace_text}
use Rattle.gp_replay.specs.declared.fault.PlayFault.{PlayFault}
use Rattle.gp_replay.specs.declared.fault.PlayFault.TheVariants as faults
use Rattle.gp_replay.specs.Writing.{LeavesScriptPrefix, PlaysScript, WritesScript}
use Rattle.gp_compare.specs.declared.difference.Difference.{Difference}
use Rattle.gp_compare.specs.Comparer.{ComparerState, DiffersWithin, IsAll}
use Rattle.gp_compare.specs.Difference.{Differs as DiffersFrom}
use Rattle.gp_compare.specs.Place.{behind, front}
use Rattle.gp_outcome.specs.declared.playing.Compared.{Compared}
use Rattle.gp_outcome.specs.declared.playing.Compared.TheVariants.{Same, Differs}
use Rattle.gp_outcome.specs.Playing.{BeginsTraceOf, ComparesPlayed, DiffersPlayed, IsFresh, IsTraceOf, IsWrittenOf, PlaysCompared}

-- ---- what the writer below the sink of a play took

-- a writer that held nothing took what it holds now
appended : (before after : Option (List ℕ)) (taken written : List ℕ) → before ≡ Some [] → after ≡ Some taken → Appends before after written → taken ≡ written
appended before after taken written none is h =
    subst (λ (o : Option (List ℕ)). Appends (Some []) o written) is (subst (λ (o : Option (List ℕ)). Appends o after written) none h)

-- the whole trace
whole : (script : ScriptView) (before after : SinkState ComparerState) → IsFresh before → after.held ≡ Some after.writer.taken → WritesScript script before after
    → IsTraceOf script after.writer.taken
whole script before after fresh held w = record {
  receipts = w.receipts;
  plays = w.plays;
  runs = w.runs;
  is = appended before.held after.held after.writer.taken (before.gathered ++ trace_text script.mask w.receipts) fresh.held held w.written
      ∙ ap (λ (l : List ℕ). l ++ trace_text script.mask w.receipts) fresh.gathered;
}

-- or the front of one
part : (script : ScriptView) (before after : SinkState ComparerState) → IsFresh before → after.held ≡ Some after.writer.taken → LeavesScriptPrefix script before after
    → BeginsTraceOf script after.writer.taken
part script before after fresh held w =
    let trace = trace_text script.mask w.receipts in
    let taken = appended before.held after.held after.writer.taken w.written.written fresh.held held w.written.appended in
    record {
      receipts = w.receipts;
      plays = w.plays;
      left = w.written.unwritten;
      is = ap (λ (l : List ℕ). l ++ trace) (sym fresh.gathered) ∙ w.written.rest ∙ ap (λ (l : List ℕ). l ++ w.written.unwritten) (sym taken);
    }

written_of : (script : ScriptView) (before after : SinkState ComparerState) (answer : Result (Unit {0}) PlayFault) → IsFresh before → after.held ≡ Some after.writer.taken
    → (answer ≡ Err faults.OutOfMemory → ⊥) → PlaysScript script before after answer → IsWrittenOf script answer after.writer.taken
written_of script before after (Ok done) fresh held remembered plays = whole script before after fresh held plays.ok
written_of script before after (Err faults.Write) fresh held remembered plays = part script before after fresh held plays.fault
written_of script before after (Err faults.OutOfMemory) fresh held remembered plays = remembered refl

pub played_compared : (script : ScriptView) (known : Option (List ℕ)) (before after : SinkState ComparerState) (comparer : ComparerState) (answer : Result (Unit {0}) PlayFault) (end : Compared)
    → IsFresh before → after.held ≡ Some comparer.taken → comparer ≡ after.writer → PlaysScript script before after answer → ComparesPlayed known comparer answer end
    → PlaysCompared script known end
played_compared script known before after comparer answer end fresh holds is plays h =
    by_end (holds ∙ ap (λ (c : ComparerState). Some c.taken) is) end (subst (λ (c : ComparerState). ComparesPlayed known c answer end) is h)
  where
    by_end : after.held ≡ Some after.writer.taken → (end : Compared) → ComparesPlayed known after.writer answer end → PlaysCompared script known end
    by_end held (Same lines) h = record {
      trace = after.writer.taken;
      written = written_of script before after (Ok tt) fresh held (λ is. cc is) (subst (λ (a : Result (Unit {0}) PlayFault). PlaysScript script before after a) h.0 plays);
      all = h.1;
      lines_are = h.2;
    }
    by_end held (Differs difference) h = record {
      trace = after.writer.taken;
      answer = answer;
      written = written_of script before after answer fresh held h.remembered plays;
      differs = h.differs;
      ended = h.ended;
    }

-- ---- what a writer took, where the play ended so

-- it was stopped, and differs or not
pub stopped_compared : (known : Option (List ℕ)) (comparer : ComparerState) (difference : Difference) → DiffersWithin known comparer.taken difference
    → ComparesPlayed known comparer (Err faults.Write) (Differs difference)
stopped_compared known comparer difference within = record {
  remembered = λ is. cc is;
  differs = within.differs;
  ended = λ none. let zero : length within.differs.right ≡ 0 = ap length none in let some : 0 < length within.differs.right = within.some in absurd (omega arith);
}

pub stopped_other : (known : Option (List ℕ)) (comparer : ComparerState) (played : Result (Unit {0}) PlayFault) (end : Option Difference) (difference : Difference) → played ≡ Err faults.Write → end ≡ Some difference
    → IfSome end (DiffersWithin known comparer.taken) → DiffersPlayed known comparer played difference
stopped_other known comparer played end difference is some within =
    subst (λ (p : Result (Unit {0}) PlayFault). DiffersPlayed known comparer p difference) (sym is)
    (stopped_compared known comparer difference (subst (λ (o : Option Difference). IfSome o (DiffersWithin known comparer.taken)) some within))

-- it was played to its end, and is all that is expected
pub same_compared : (known : Option (List ℕ)) (comparer : ComparerState) (lines : ℕ) → IsAll known comparer.taken
    → (comparer.difference ≡ None → comparer.fault ≡ None → lines ≡ (behind front comparer.taken).feeds) → (comparer.difference ≡ None) × (comparer.fault ≡ None)
    → ComparesPlayed known comparer (Ok tt) (Same lines)
same_compared known comparer lines all counted same = (refl, all, counted same.0 same.1)

-- or it isn't
pub other_compared : (known : Option (List ℕ)) (comparer : ComparerState) (difference : Difference) → DiffersFrom known comparer.taken difference
    → ComparesPlayed known comparer (Ok tt) (Differs difference)
other_compared known comparer difference differs = record { remembered = λ is. cc is; differs = differs; ended = λ none. refl }
