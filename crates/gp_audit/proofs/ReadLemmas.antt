-- What is known of a line that was read.
use Rattle.std.proofs.Common.{◌≡◌, ℕ, ◌≤◌, ◌<◌, ◌&&◌, Bool, true, false, List, Result, Ok, Err, Option, Some, None, inl, inr, refl, sym, subst, if◌then◌else◌, arith, codes}
use Rattle.std.specs.Prelude.{nat_le}
use Rattle.std.specs.Str.{bytes_eq}
use Rattle.std.specs.Str.Parse.{digits_value}
use Rattle.gp_machine.specs.declared.event.Event.{Event}
use Rattle.gp_machine.specs.declared.event.Event.TheVariants as events
use Rattle.gp_lines.specs.declared.fault.LineFault.{LineFault}
use Rattle.gp_lines.specs.declared.fault.LineFault.TheVariants as linefault
use Rattle.gp_lines.specs.Reading.{in_range, is_numeral}
use Rattle.gp_lines.specs.Reading as lines
use Rattle.gp_log.specs.declared.fault.LogFault.{LogFault}
use Rattle.gp_log.specs.declared.fault.LogFault.TheVariants as fault
use Rattle.gp_log.specs.declared.line.LogLine.{LogLine}
use Rattle.gp_log.specs.declared.line.LogLine.TheVariants as line
use Rattle.gp_log.specs.declared.said.Said.{Said}
use Rattle.gp_log.specs.Fields.{◌>>=◌, Field, next, number_in, number_or}
use Rattle.gp_log.specs.Line.{IsTraceLine, Reads, ReadsText, text_of}
use Rattle.gp_log.specs.Log.{entry_in, entry_of, ported_entry, second_entry, third_entry}
use Rattle.gp_log.specs.Says.{kind_of, said_of}
use Rattle.gp_log.specs.Time.{time_of}
use Rattle.gp_log.specs.Trace.{frame_line, frame_said, is_end, next_granted, next_sent, trace_line}
use Rattle.gp_audit.specs.Places.{IsNear, IsTraced}

-- ---- steps that had no fault

err_ok : {A : Type 0} (e : LogFault) (y : A) → ◌≡◌ {A = Result A LogFault} (Err e) (Ok y) → ⊥
err_ok e y h = cc

ok_same : {A : Type 0} (x y : A) → ◌≡◌ {A = Result A LogFault} (Ok x) (Ok y) → x ≡ y
ok_same x y h = cc

ok_step : {A B : Type 0} (r : Result A LogFault) (f : A → Result B LogFault) (y : B) → (r >>= f) ≡ Ok y → (x : A) × (r ≡ Ok x) × (f x ≡ Ok y)
ok_step (Ok x) f y h = (x, refl, h)
ok_step (Err e) f y h = absurd (err_ok e y h)

ok_then : {A : Type 0} (b : Bool) (r : Result A LogFault) (e : LogFault) (y : A) → (if b then r else Err e) ≡ Ok y → r ≡ Ok y
ok_then true r e y h = h
ok_then false r e y h = absurd (err_ok e y h)

-- ---- a number in its range

range_low : (b : Bool) (number y : ℕ) → ◌≡◌ {A = Result ℕ LineFault} (if b then Ok number else Err linefault.Range) (Ok y) → (b ≡ true) × (number ≡ y)
range_low true number y h = let same : number ≡ y = cc in (refl, same)
range_low false number y h = absurd (cc)

range_high : (high number y : ℕ) → in_range 0 high number ≡ Ok y → y ≤ high
range_high high number y h =
    let r = range_low (nat_le 0 number && nat_le number high) number y h in
    grind (arith, r.0, r.1)

numeral_high : (b : Bool) (high number y : ℕ) → (if b then in_range 0 high number else Err linefault.Number) ≡ Ok y → y ≤ high
numeral_high true high number y h = range_high high number y h
numeral_high false high number y h = absurd (cc)

lines_high : (high : ℕ) (text : List ℕ) (y : ℕ) → lines.number_in 0 high text ≡ Ok y → y ≤ high
unfolding lines.number_in
lines_high high text y h = numeral_high (is_numeral text) high (digits_value 10 text) y h

or_high : (wrong : LogFault) (r : Result ℕ LineFault) (y : ℕ) → number_or wrong r ≡ Ok y → r ≡ Ok y
or_high wrong (Ok number) y h = cc
or_high wrong (Err e) y h = absurd (cc)

number_high : (wrong : LogFault) (high : ℕ) (text : List ℕ) (y : ℕ) → number_in wrong high text ≡ Ok y → y ≤ high
number_high wrong high text y h = lines_high high text y (or_high wrong (lines.number_in 0 high text) y h)

-- ---- a line of a log

record IsLog (l : LogLine) : Type 0 where
  pub port : ℕ
  pub time : ℕ
  pub said : Said
  pub is : l ≡ line.Log port time said
  pub near : port < 16

entry_log : (port : ℕ) (time : List ℕ) (kind : _) (text : List ℕ) (l : LogLine) → port < 16 → entry_of port time kind text ≡ Ok l → IsLog l
unfolding entry_of
entry_log port time kind text l near h =
    let at = ok_step (time_of time) _ l h in
    let said = ok_step (said_of kind text) _ l at.2 in
    record { port = port; time = at.0; said = said.0; is = sym (ok_same _ l said.2); near = near }

ported_log : (digits time : List ℕ) (kind : _) (text : List ℕ) (l : LogLine) → ported_entry digits time kind text ≡ Ok l → IsLog l
unfolding ported_entry
ported_log digits time kind text l h =
    let port = ok_step (number_in fault.Number 15 digits) _ l h in
    let high = number_high fault.Number 15 digits port.0 port.1 in
    entry_log port.0 time kind text l (omega (arith, high)) port.2

third_log : (digits time : List ℕ) (kind : Option _) (text : List ℕ) (l : LogLine) → third_entry digits time kind text ≡ Ok l → IsLog l
third_log digits time None text l h = absurd (err_ok fault.Word l h)
third_log digits time (Some kind) text l h = ported_log digits time kind text l h

second_log : (first second : Field) (kind : Option _) (l : LogLine) → second_entry first second kind ≡ Ok l → IsLog l
second_log first second None l h = third_log first.0 second.0 (kind_of (next second.1).0) (next second.1).1 l h
second_log first second (Some kind) l h = entry_log 0 first.0 kind second.1 l (omega arith) h

log_read : (text : List ℕ) (l : LogLine) → entry_in text ≡ Ok l → IsLog l
log_read text l h = let first = next text in second_log first (next first.1) (kind_of (next first.1).0) l h

-- ---- a line of a trace

record IsTrace (port : ℕ) (l : LogLine) : Type 0 where
  pub is_frame : Bool
  pub first : Option Said
  pub second : Option Said
  pub is : l ≡ line.Trace port is_frame first second

frame_trace : (port : ℕ) (text : List ℕ) (l : LogLine) → frame_said port text ≡ Ok l → IsTrace port l
unfolding frame_said
frame_trace port text l h =
    let sent = ok_step (next_sent text) _ l h in
    let granted = ok_step (next_granted sent.0.1) _ l sent.2 in
    let end = ok_then (is_end (next granted.0.1).0) (Ok (line.Trace port true sent.0.0 granted.0.0)) fault.Word l granted.2 in
    record { is_frame = true; first = sent.0.0; second = granted.0.0; is = sym (ok_same _ l end) }

frame_read : (port : ℕ) (answer : List ℕ) (l : LogLine) → frame_line port answer ≡ Ok l → IsTrace port l
frame_read port answer l h =
    frame_trace port (next answer).1 l (ok_then (bytes_eq (next answer).0 (codes "ok")) (frame_said port (next answer).1) fault.Word l h)

trace_read : (port : ℕ) (event : Event) (answer : List ℕ) (l : LogLine) → trace_line port event answer ≡ Ok l → IsTrace port l
trace_read port events.Frame answer l h = frame_read port answer l h
trace_read port (events.Burst at octets) answer l h = record { is_frame = false; first = _; second = None; is = sym (ok_same _ l h) }
trace_read port (events.Command command) answer l h = record { is_frame = false; first = None; second = None; is = sym (ok_same _ l h) }

-- ---- any line

near_as : (l m : LogLine) → l ≡ m → IsNear (Ok m) → IsNear (Ok l)
near_as l m same h = subst (λ (x : LogLine). IsNear (Ok x)) (sym same) h

text_near : (text : List ℕ) (l : LogLine) → ReadsText text (Ok l) → IsNear (Ok l)
text_near text l (inl h) = near_as l line.Remark (ok_same l line.Remark h.1) tt
text_near text l (inr (inl h)) =
    let t = trace_read h.1.port h.1.event h.1.answer l (sym h.1.told) in
    let near = h.1.split.told.5 in
    near_as l _ t.is (omega (arith, near))
text_near text l (inr (inr h)) =
    let t = log_read text l (sym h.2) in
    near_as l _ t.is t.near

pub read_near : (text : List ℕ) (read : Result LogLine LogFault) → Reads text read → IsNear read
read_near text (Err fault) h = tt
read_near text (Ok l) (inl h) = absurd (err_ok fault.Long l (sym h.1))
read_near text (Ok l) (inr h) = text_near (text_of text) l h.1

any_traced : (text : List ℕ) (l : LogLine) → IsTraceLine text → IsTraced text (Ok l)
any_traced text line.Remark h = tt
any_traced text (line.Log port time said) h = tt
any_traced text (line.Trace port is_frame first second) h = h

traced_as : (text : List ℕ) (l m : LogLine) → l ≡ m → IsTraced text (Ok m) → IsTraced text (Ok l)
traced_as text l m same h = subst (λ (x : LogLine). IsTraced text (Ok x)) (sym same) h

text_traced : (text : List ℕ) (l : LogLine) → ReadsText text (Ok l) → IsTraced text (Ok l)
text_traced text l (inl h) = traced_as text l line.Remark (ok_same l line.Remark h.1) tt
text_traced text l (inr (inl h)) = any_traced text l (h.1.port, h.1.number, h.1.event, h.1.answer, h.1.split)
text_traced text l (inr (inr h)) = traced_as text l _ (log_read text l (sym h.2)).is tt

pub read_traced : (text : List ℕ) (read : Result LogLine LogFault) → Reads text read → IsTraced (text_of text) read
read_traced text (Err fault) h = tt
read_traced text (Ok l) (inl h) = absurd (err_ok fault.Long l (sym h.1))
read_traced text (Ok l) (inr h) = text_traced (text_of text) l h.1
