-- Lines that are handed to a dumper.
use Rattle.std.proofs.Common.{Bool, ◌≡◌, ℕ, List, [], Option, None, Some, Result, Ok, Err, IsErrAnd, inl, inr, refl, sym, ap, subst, ◌∙◌}
use Rattle.gp_flow.specs.declared.fault.Unanswered.{Unanswered}
use Rattle.gp_flow.specs.declared.fault.Unanswered.TheVariants.{Write}
use Rattle.gp_flow.specs.Lines.{Answers}
use Rattle.gp_flow.proofs.AnswerLemmas.{no_memory, no_room, put_answers, put_stopped, silent_answers}
use Rattle.gp_stream.specs.declared.sink.WriteStopped.{WriteStopped}
use Rattle.gp_stream.specs.Sink.{SinkState, Puts}
use Rattle.gp_explain.specs.declared.fault.NoLine.{NoLine}
use Rattle.gp_explain.specs.declared.fault.NoLine.TheVariants.{NotALine}
use Rattle.gp_log.specs.declared.fault.LogFault.{LogFault}
use Rattle.gp_log.specs.declared.line.LogLine.{LogLine}
use Rattle.gp_log.specs.Line.{Reads}
use Rattle.gp_waves.specs.declared.fault.WavesFault.{WavesFault}
use Rattle.gp_waves.specs.declared.fault.WavesFault.TheVariants as waves
use Rattle.gp_waves.specs.Faults.{undumped}
use Rattle.gp_times.specs.Times.{TimesState, falls, times_after}
use Rattle.gp_times.specs.declared.frames.Frames.{Frames}
use Rattle.gp_ploam.specs.declared.check.Mask.{Mask}
use Rattle.gp_waves.specs.Held.{HeldState}
use Rattle.gp_waves.specs.Hearing.{FibreState, HearsLine}
use Rattle.gp_waves.specs.Writing.{Spills, Written}
use Rattle.gp_times.specs.Lines.{IsUnread}
use Rattle.gp_waves.specs.Dumping.{Dumping, IsFull, Says, SaysFrom, WavesState, counted, ended_by}

-- a line that is none ends it
pub refused_line : {W : Type 0} (old new : WavesState) (text : List ℕ) (before : SinkState W) → old.ended ≡ None → IsUnread text
    → new ≡ ended_by NotALine old → Answers {T = Unit {0}} Dumping (Some text) old new before before (Ok tt)
refused_line old new text before none unread same =
    silent_answers Dumping (Some text) old new before (tt {0})
    (subst (λ (e : Option NoLine). SaysFrom e old (Some text) [] new) (sym none) (inr (unread, refl, same)))

-- what is said to a line that is read
pub read_line_says : (old new : WavesState) (text said : List ℕ) (line : LogLine) (heard : FibreState) (held : HeldState) (written : Written) → old.ended ≡ None
    → Reads text (Ok line) → HearsLine old.frames old.mask text line (times_after line old.times) (falls line old.times) old.fibre heard → Spills heard.held old.written said held written → new ≡ counted line (record { ports = heard.ports; held = held }) written old → Says old (Some text) said new
read_line_says old new text said line heard held written none reads hears spills same =
    let there : Spills heard.held old.written said new.fibre.held new.written = subst (λ (s : WavesState). Spills heard.held old.written said s.fibre.held s.written) (sym same) spills in
    let is : new ≡ counted line (record { ports = heard.ports; held = new.fibre.held }) new.written old = same ∙ ap (λ (s : WavesState). counted line (record { ports = heard.ports; held = s.fibre.held }) s.written old) (sym same) in
    subst (λ (e : Option NoLine). SaysFrom e old (Some text) said new) (sym none) (inl (line, reads, heard, hears, there, is))

-- a line that can't be dumped
pub undumped_line : {W : Type 0} (line : Option (List ℕ)) (old new : WavesState) (before : SinkState W) (fault : WavesFault) (r : Result (Unit {0}) Unanswered)
    → IsErrAnd r (λ f. f ≡ undumped fault) → IsFull old line → Answers Dumping line old new before before r
undumped_line line old new before fault (Ok x) told why = absurd told
undumped_line line old new before waves.OutOfMemory (Err f) told why =
    subst (λ (e : Unanswered). Answers {T = Unit {0}} Dumping line old new before before (Err e)) (sym told) (no_memory Dumping line old new before)
undumped_line line old new before waves.Full (Err f) told why =
    subst (λ (e : Unanswered). Answers {T = Unit {0}} Dumping line old new before before (Err e)) (sym told) (no_room Dumping line old new before why)

-- a line with which the writer stopped
pub stopped_line : {W T : Type 0} (old new : WavesState) (text said : List ℕ) (line : LogLine) (heard : FibreState) (held : HeldState) (written : Written) (before after : SinkState W)
    (e : WriteStopped) (r : Result (Unit {0}) Unanswered) → old.ended ≡ None → Reads text (Ok line) → HearsLine old.frames old.mask text line (times_after line old.times) (falls line old.times) old.fibre heard → Spills heard.held old.written said held written → Puts {T = T} before after said (Err e)
    → IsErrAnd r (λ f. f ≡ Write) → Answers Dumping (Some text) old new before after r
stopped_line old new text said line heard held written before after e (Ok x) none reads hears spills puts told = absurd told
stopped_line old new text said line heard held written before after e (Err f) none reads hears spills puts told =
    let next : WavesState = counted line (record { ports = heard.ports; held = held }) written old in
    subst (λ (fault : Unanswered). Answers {T = Unit {0}} Dumping (Some text) old new before after (Err fault)) (sym told)
    (put_stopped Dumping (Some text) old new next before after said e (read_line_says old next text said line heard held written none reads hears spills refl) puts)

-- by the result of reading it, a line is read
pub read_as : (text : List ℕ) (read : Result LogLine LogFault) (line : LogLine) → read ≡ Ok line → Reads text read → Reads text (Ok line)
read_as text read line is reads = subst (λ (r : Result LogLine LogFault). Reads text r) is reads

-- or not
pub unread_as : (text : List ℕ) (read : Result LogLine LogFault) (fault : LogFault) → read ≡ Err fault → Reads text read → IsUnread text
unread_as text read fault is reads = (fault, subst (λ (r : Result LogLine LogFault). Reads text r) is reads)

-- a line that is read, with what is said to it
pub written_line : {W T : Type 0} (old new : WavesState) (text said : List ℕ) (line : LogLine) (heard : FibreState) (held : HeldState) (written : Written) (before after : SinkState W)
    (x : T) → old.ended ≡ None → Reads text (Ok line) → HearsLine old.frames old.mask text line (times_after line old.times) (falls line old.times) old.fibre heard → Spills heard.held old.written said held written → new ≡ counted line (record { ports = heard.ports; held = held }) written old
    → Puts {T = T} {E = WriteStopped} before after said (Ok x) → Answers {T = Unit {0}} Dumping (Some text) old new before after (Ok tt)
written_line old new text said line heard held written before after x none reads hears spills same puts =
    put_answers Dumping (Some text) old new before after said x (tt {0}) (read_line_says old new text said line heard held written none reads hears spills same) puts

-- with a line that is read a count may not go on
pub may_fill : (old : WavesState) (text : List ℕ) (read : Result LogLine LogFault) (line : LogLine) → old.ended ≡ None → read ≡ Ok line → Reads text read → IsFull old (Some text)
may_fill old text read line none is reads = (none, inr (line, read_as text read line is reads))

-- a line that was heard, where the state was seen before
pub hears_as : (old : WavesState) (text : List ℕ) (line : LogLine) (frames : Frames) (mask : Mask) (times : TimesState) (fell : Bool)
    (fibre heard : FibreState) → frames ≡ old.frames → mask ≡ old.mask → times ≡ times_after line old.times → fell ≡ falls line old.times → fibre ≡ old.fibre
    → HearsLine frames mask text line times fell fibre heard → HearsLine old.frames old.mask text line (times_after line old.times) (falls line old.times) old.fibre heard
hears_as old text line frames mask times fell fibre heard f m t b s hears =
    subst (λ (x : FibreState). HearsLine old.frames old.mask text line (times_after line old.times) (falls line old.times) x heard) s
    (subst (λ (x : Bool). HearsLine old.frames old.mask text line (times_after line old.times) x fibre heard) b
    (subst (λ (x : TimesState). HearsLine old.frames old.mask text line x fell fibre heard) t
    (subst (λ (x : Mask). HearsLine old.frames x text line times fell fibre heard) m
    (subst (λ (x : Frames). HearsLine x mask text line times fell fibre heard) f hears))))
