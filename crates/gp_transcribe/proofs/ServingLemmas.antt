-- Lines that are handed to a transcriber.
use Rattle.std.proofs.Common.{◌≡◌, ◌⊎◌, ℕ, Bool, List, [], Option, None, Some, Ok, Err, IsErrAnd, Result, inl, inr, refl, sym, ap, subst, ◌∙◌}
use Rattle.gp_flow.specs.declared.fault.Unanswered.{Unanswered}
use Rattle.gp_flow.specs.declared.fault.Unanswered.TheVariants.{Write, OutOfMemory, Full}
use Rattle.gp_flow.specs.Lines.{Answers}
use Rattle.gp_flow.proofs.AnswerLemmas.{no_memory, no_room, put_stopped, silent_answers}
use Rattle.gp_stream.specs.declared.sink.WriteStopped.{WriteStopped}
use Rattle.gp_stream.specs.Sink.{SinkState, Puts}
use Rattle.gp_explain.specs.declared.fault.NoLine.{NoLine}
use Rattle.gp_explain.specs.declared.fault.NoLine.TheVariants.{NotALine}
use Rattle.gp_transcribe.specs.Entries.{HasTooManyFrames, IsTraceRead, Transcribes}
use Rattle.gp_transcribe.specs.Transcribing.{IsFull, TranscribeState, Transcribing, Says, SaysFrom, counted, ended_by}

written_line : (old new : TranscribeState) (next text said : List ℕ) → old.ended ≡ None → Transcribes old.frames text said next → new ≡ counted next old
    → Says old (Some text) said new
written_line old new next text said none writes same =
    subst (λ (e : Option NoLine). SaysFrom e old (Some text) said new) (sym none) (inl (next, writes, same))

-- the same, told otherwise
pub written_as : (old frames text said octets next : List ℕ) → Transcribes frames text octets next → frames ≡ old → said ≡ octets → Transcribes old text said next
written_as old frames text said octets next writes one other =
    subst (λ (f : List ℕ). Transcribes f text said next) one (subst (λ (s : List ℕ). Transcribes frames text s next) (sym other) writes)

-- a line that is none of a trace ends it
pub refused_line : {W : Type 0} (old new : TranscribeState) (text : List ℕ) (before : SinkState W) (frames inside : List ℕ) → old.ended ≡ None → (IsTraceRead text → ⊥)
    → frames ≡ inside → inside ≡ old.frames → new ≡ record (ended_by NotALine old) { frames = frames }
    → Answers {T = Unit {0}} Transcribing (Some text) old new before before (Ok tt)
refused_line old new text before frames inside none other kept viewed same =
    let ended : new ≡ ended_by NotALine old = same ∙ ap (λ (f : List ℕ). record (ended_by NotALine old) { frames = f }) (kept ∙ viewed) in
    silent_answers Transcribing (Some text) old new before (tt {0})
    (subst (λ (e : Option NoLine). SaysFrom e old (Some text) [] new) (sym none) (inr (other, refl, ended)))

-- a line that can't be written
pub unwritten_line : {W : Type 0} (line : Option (List ℕ)) (old new : TranscribeState) (before : SinkState W) (fault : Unanswered) (r : Result (Unit {0}) Unanswered)
    → IsErrAnd r (λ f. f ≡ fault) → (fault ≡ OutOfMemory) ⊎ (fault ≡ Full) → (fault ≡ Full → IsFull old line) → Answers Transcribing line old new before before r
unwritten_line line old new before fault (Ok x) told which why = absurd told
unwritten_line line old new before fault (Err f) told (inl memory) why =
    subst (λ (e : Unanswered). Answers {T = Unit {0}} Transcribing line old new before before (Err e)) (sym (told ∙ memory)) (no_memory Transcribing line old new before)
unwritten_line line old new before fault (Err f) told (inr full) why =
    subst (λ (e : Unanswered). Answers {T = Unit {0}} Transcribing line old new before before (Err e)) (sym (told ∙ full)) (no_room Transcribing line old new before (why full))

-- one of which a log can't tell the frame
pub untold_line : (old : TranscribeState) (frames text : List ℕ) (fault : Unanswered) (r : Result Bool Unanswered) → old.ended ≡ None → frames ≡ old.frames → r ≡ Err fault
    → (r ≡ Err Full → HasTooManyFrames frames text) → fault ≡ Full → IsFull old (Some text)
untold_line old frames text fault r none viewed is many full =
    (none, inr (subst (λ (f : List ℕ). HasTooManyFrames f text) viewed (many (is ∙ ap (λ (e : Unanswered). let x : Result Bool Unanswered = Err e in x) full))))

-- a line of which the writer took a part
pub stopped_line : {W T : Type 0} (old new next : TranscribeState) (frames text said : List ℕ) (before after : SinkState W) (e : WriteStopped) (r : Result (Unit {0}) Unanswered)
    → old.ended ≡ None → Transcribes old.frames text said frames → next ≡ counted frames old → Puts {T = T} before after said (Err e) → IsErrAnd r (λ f. f ≡ Write)
    → Answers Transcribing (Some text) old new before after r
stopped_line old new next frames text said before after e (Ok x) none writes same puts told = absurd told
stopped_line old new next frames text said before after e (Err f) none writes same puts told =
    subst (λ (fault : Unanswered). Answers {T = Unit {0}} Transcribing (Some text) old new before after (Err fault)) (sym told)
    (put_stopped Transcribing (Some text) old new next before after said e (written_line old next frames text said none writes same) puts)
