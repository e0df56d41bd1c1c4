-- A line of a trace, read: its port is one that there may be, and no other line is read as one.
use Rattle.std.proofs.Common.{◌≡◌, ℕ, ◌≤◌, Bool, true, false, List, Option, None, Some, Result, Ok, Err, inl, inr, sym, subst}
use Rattle.std.specs.Prelude.{IfNone, IfSome, if◌then◌else◌, ⊤}
use Rattle.gp_machine.specs.declared.event.Event.{Event}
use Rattle.gp_machine.specs.declared.event.Event.TheVariants as events
use Rattle.gp_lines.specs.Spelling.{last_port}
use Rattle.gp_log.specs.declared.fault.LogFault.{LogFault}
use Rattle.gp_log.specs.declared.fault.LogFault.TheVariants as fault
use Rattle.gp_log.specs.declared.line.LogLine.{LogLine}
use Rattle.gp_log.specs.declared.line.LogLine.TheVariants as line
use Rattle.gp_log.specs.declared.said.Said.{Said}
use Rattle.gp_log.specs.Fields.{◌>>=◌, Field, next, number_in}
use Rattle.gp_log.specs.Time.{time_of}
use Rattle.gp_log.specs.Says.{kind_of, said_of}
use Rattle.gp_log.specs.Log.{entry_of, ported_entry, third_entry, second_entry, entry_in}
use Rattle.gp_log.specs.Trace.{MaybeSaid, next_sent, next_granted, is_end, frame_said, frame_line, trace_line}
use Rattle.gp_log.specs.Line.{ReadsText, Reads, text_of}
use Rattle.gp_log.proofs.OnceLemmas.{read_once}
use Rattle.gp_transcribe.specs.declared.traced.TracedLine.{TracedLine}
use Rattle.gp_transcribe.specs.Entries.{IsTraceRead, ReadsAs}
use Rattle.gp_transcribe.specs.Traced.{IsOther}

abbrev Read : Type 0
Read = Result LogLine LogFault

-- where it is a line of a trace, its port is from 0 to 15
abbrev IsLowLine : LogLine → Type 0
IsLowLine line.Remark = ⊤
IsLowLine (line.Log port time said) = ⊤
IsLowLine (line.Trace port is_frame first second) = port ≤ last_port

abbrev pub IsLow : Read → Type 0
IsLow (Ok l) = IsLowLine l
IsLow (Err e) = ⊤

bind_low : {A : Type 0} (r : Result A LogFault) (f : A → Read) → ((x : A) → IsLow (f x)) → IsLow (r >>= f)
bind_low (Ok x) f h = h x
bind_low (Err e) f h = tt

if_low : (b : Bool) (x y : Read) → IsLow x → IsLow y → IsLow (if b then x else y)
if_low true x y h k = h
if_low false x y h k = k

-- ---- a line of a log is none of a trace

entry_low : (port : ℕ) (time : List ℕ) (kind : _) (text : List ℕ) → IsLow (entry_of port time kind text)
unfolding entry_of
entry_low port time kind text =
    bind_low (time_of time) (λ (at : ℕ). said_of kind text >>= (λ (said : Said). Ok (line.Log port at said)))
    (λ at. bind_low (said_of kind text) (λ (said : Said). Ok (line.Log port at said)) (λ said. tt))

ported_low : (digits time : List ℕ) (kind : _) (text : List ℕ) → IsLow (ported_entry digits time kind text)
unfolding ported_entry
ported_low digits time kind text =
    bind_low (number_in fault.Number 15 digits) (λ (port : ℕ). entry_of port time kind text) (λ port. entry_low port time kind text)

third_low : (digits time : List ℕ) (kind : Option _) (text : List ℕ) → IsLow (third_entry digits time kind text)
third_low digits time None text = tt
third_low digits time (Some kind) text = ported_low digits time kind text

second_low : (first second : Field) (kind : Option _) → IsLow (second_entry first second kind)
second_low first second None = third_low first.0 second.0 (kind_of (next second.1).0) (next second.1).1
second_low first second (Some kind) = entry_low 0 first.0 kind second.1

text_low : (text : List ℕ) → IsLow (entry_in text)
text_low text = second_low (next text) (next (next text).1) (kind_of (next (next text).1).0)

-- ---- a line of a trace

ends_low : (port : ℕ) (first second : Option Said) (b : Bool) → port ≤ last_port
    → IsLow (if b then Ok (line.Trace port true first second) else Err fault.Word)
ends_low port first second b low = if_low b (Ok (line.Trace port true first second)) (Err fault.Word) low tt

frame_said_low : (port : ℕ) (text : List ℕ) → port ≤ last_port → IsLow (frame_said port text)
unfolding frame_said
frame_said_low port text low =
    bind_low (next_sent text)
    (λ (sent : MaybeSaid). next_granted sent.1 >>= (λ (granted : MaybeSaid).
    if is_end (next granted.1).0 then Ok (line.Trace port true sent.0 granted.0) else Err fault.Word))
    (λ sent. bind_low (next_granted sent.1)
    (λ (granted : MaybeSaid). if is_end (next granted.1).0 then Ok (line.Trace port true sent.0 granted.0) else Err fault.Word)
    (λ granted. ends_low port sent.0 granted.0 (is_end (next granted.1).0) low))

frame_low : (port : ℕ) (answer : List ℕ) → port ≤ last_port → IsLow (frame_line port answer)
frame_low port answer low = if_low _ (frame_said port (next answer).1) (Err fault.Word) (frame_said_low port (next answer).1 low) tt

trace_low : (port : ℕ) (event : Event) (answer : List ℕ) → port ≤ last_port → IsLow (trace_line port event answer)
trace_low port events.Frame answer low = frame_low port answer low
trace_low port (events.Burst at octets) answer low = low
trace_low port (events.Command command) answer low = low

-- ---- any line

text_read_low : (text : List ℕ) (read : Read) → ReadsText text read → IsLow read
text_read_low text read (inl remark) = subst IsLow (sym remark.1) tt
text_read_low text read (inr (inl trace)) =
    subst IsLow (sym trace.1.told) (trace_low trace.1.port trace.1.event trace.1.answer trace.1.split.told.5)
text_read_low text read (inr (inr log)) = subst IsLow (sym log.2) (text_low text)

pub read_low : (text : List ℕ) (read : Read) → Reads text read → IsLow read
read_low text read (inl long) = subst IsLow (sym long.1) tt
read_low text read (inr short) = text_read_low (text_of text) read short.1

-- ---- what is read otherwise is no line of a trace

pub read_other : (text : List ℕ) (read : Read) → Reads text read → IsOther read → IsTraceRead text → ⊥
read_other text read is other trace =
    subst IsOther (read_once text read (Ok (line.Trace trace.0 trace.1 trace.2 trace.3)) is trace.4) other

-- ---- what is made of it

pub traced_some : (text : List ℕ) (read : Read) (o : Option TracedLine) → Reads text read
    → IfSome o (λ l. read ≡ Ok (line.Trace l.port l.is_frame l.first l.second))
    → IfSome o (λ l. ReadsAs text l.port l.is_frame l.first l.second × (l.port ≤ last_port))
traced_some text read None is h = tt
traced_some text read (Some l) is h =
    let same : ReadsAs text l.port l.is_frame l.first l.second = subst (Reads text) h is in
    (same, read_low text (Ok (line.Trace l.port l.is_frame l.first l.second)) same)

pub traced_none : (text : List ℕ) (read : Read) (o : Option TracedLine) → Reads text read → IfNone o (IsOther read)
    → IfNone o (IsTraceRead text → ⊥)
traced_none text read None is h = read_other text read is h
traced_none text read (Some l) is h = tt
