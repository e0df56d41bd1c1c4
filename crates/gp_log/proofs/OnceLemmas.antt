-- A line is read in one way.
use Rattle.std.proofs.Common.{◌≡◌, ℕ, List, Result, sym, ap, ◌∙◌, inl, inr, arith}
use Rattle.std.proofs.lemmas.Bool.{false≢true}
use Rattle.gp_machine.specs.declared.event.Event.{Event}
use Rattle.gp_lines.proofs.SplitLemmas.{one_cut}
use Rattle.gp_log.specs.declared.fault.LogFault.{LogFault}
use Rattle.gp_log.specs.declared.line.LogLine.{LogLine}
use Rattle.gp_log.specs.Trace.{trace_line}
use Rattle.gp_log.specs.Line.{ReadsTrace, ReadsText, Reads, IsTraceLine, text_of}

abbrev Read : Type 0
Read = Result LogLine LogFault

told_same : (port other_port : ℕ) (event other_event : Event) (answer other_answer : List ℕ) → port ≡ other_port → event ≡ other_event → answer ≡ other_answer
    → trace_line port event answer ≡ trace_line other_port other_event other_answer
told_same port other_port event other_event answer other_answer one two three =
    ap (λ (p : ℕ). trace_line p event answer) one ∙ ap (λ (e : Event). trace_line other_port e answer) two ∙ ap (trace_line other_port other_event) three

trace_once : (text : List ℕ) (first second : Read) → ReadsTrace text first → ReadsTrace text second → first ≡ second
trace_once text first second one other =
    let same = one_cut text one.port one.number one.event one.answer other.port other.number other.event other.answer one.split other.split in
    one.told ∙ told_same one.port other.port one.event other.event one.answer other.answer same.0 same.2 same.3 ∙ sym other.told

is_trace : (text : List ℕ) (read : Read) → ReadsTrace text read → IsTraceLine text
is_trace text read r = (r.port, r.number, r.event, r.answer, r.split)

text_once : (text : List ℕ) (first second : Read) → ReadsText text first → ReadsText text second → first ≡ second
text_once text first second (inl one) (inl other) = one.1 ∙ sym other.1
text_once text first second (inl one) (inr (inl other)) = absurd (false≢true (sym other.0 ∙ one.0))
text_once text first second (inl one) (inr (inr other)) = absurd (false≢true (sym other.0 ∙ one.0))
text_once text first second (inr (inl one)) (inl other) = absurd (false≢true (sym one.0 ∙ other.0))
text_once text first second (inr (inl one)) (inr (inl other)) = trace_once text first second one.1 other.1
text_once text first second (inr (inl one)) (inr (inr other)) = absurd (other.1 (is_trace text first one.1))
text_once text first second (inr (inr one)) (inl other) = absurd (false≢true (sym one.0 ∙ other.0))
text_once text first second (inr (inr one)) (inr (inl other)) = absurd (one.1 (is_trace text second other.1))
text_once text first second (inr (inr one)) (inr (inr other)) = one.2 ∙ sym other.2

pub read_once : (line : List ℕ) (first second : Read) → Reads line first → Reads line second → first ≡ second
read_once line first second (inl one) (inl other) = one.1 ∙ sym other.1
read_once line first second (inl one) (inr other) = let far = one.0 in let near = other.0 in absurd (omega (arith, far, near))
read_once line first second (inr one) (inl other) = let near = one.0 in let far = other.0 in absurd (omega (arith, far, near))
read_once line first second (inr one) (inr other) = text_once (text_of line) first second one.1 other.1
