-- Lines that are handed to an explainer.
use Rattle.std.specs.Prelude.{IfNone, is_some}
use Rattle.std.proofs.Common.{◌≡◌, ℕ, false, List, [], Option, None, Some, Ok, Err, IsErrAnd, Result, inl, inr, refl, sym, subst}
use Rattle.gp_flow.specs.declared.fault.Unanswered.{Unanswered}
use Rattle.gp_flow.specs.declared.fault.Unanswered.TheVariants.{Write}
use Rattle.gp_flow.specs.Lines.{Answers}
use Rattle.gp_flow.proofs.AnswerLemmas.{put_stopped, silent_answers}
use Rattle.gp_stream.specs.declared.sink.WriteStopped.{WriteStopped}
use Rattle.gp_stream.specs.Sink.{SinkState, Puts}
use Rattle.gp_machine.specs.declared.event.Event.{Event}
use Rattle.gp_lines.specs.Trace.{SplitsLine}
use Rattle.gp_explain.specs.declared.fault.NoLine.{NoLine}
use Rattle.gp_explain.specs.declared.fault.NoLine.TheVariants.{NotALine}
use Rattle.gp_explain.specs.Telling.{Manner, TellsTraceLine}
use Rattle.gp_explain.specs.Explaining.{ExplainState, Explaining, Explains, SaysFrom, counted, ended_by}

-- no line of a trace, as cutting it tells
abbrev pub IsUncut : List ℕ → Type 0
IsUncut text = (port number : ℕ) (event : Event) (answer : List ℕ) → SplitsLine text port number event answer → ⊥

-- nothing was found
pub by_none : {A P : Type 0} (found : Option A) → is_some found ≡ false → IfNone found P → P
by_none None h p = p
by_none (Some x) h p = cc h

told_line : (old new : ExplainState) (next : Manner) (text said : List ℕ) → old.ended ≡ None → TellsTraceLine old.manner text said next → new ≡ counted next old
    → Explains old (Some text) said new
told_line old new next text said none tells same =
    subst (λ (e : Option NoLine). SaysFrom e old (Some text) said new) (sym none) (inl (next, tells, same))

-- a line that is none of a trace ends it
pub refused_line : {W : Type 0} (old new : ExplainState) (text : List ℕ) (before : SinkState W) → old.ended ≡ None → IsUncut text → new ≡ ended_by NotALine old
    → Answers {T = Unit {0}} Explaining (Some text) old new before before (Ok tt)
refused_line old new text before none uncut same =
    silent_answers Explaining (Some text) old new before (tt {0})
    (subst (λ (e : Option NoLine). SaysFrom e old (Some text) [] new) (sym none) (inr (λ is. uncut is.0 is.1 is.2 is.3 is.4, refl, same)))

-- a line of which the writer took a part
pub stopped_line : {W T : Type 0} (old new next : ExplainState) (manner : Manner) (text said : List ℕ) (before after : SinkState W) (e : WriteStopped) (r : Result (Unit {0}) Unanswered)
    → old.ended ≡ None → TellsTraceLine old.manner text said manner → next ≡ counted manner old → Puts {T = T} before after said (Err e) → IsErrAnd r (λ f. f ≡ Write)
    → Answers Explaining (Some text) old new before after r
stopped_line old new next manner text said before after e (Ok x) none tells same puts told = absurd told
stopped_line old new next manner text said before after e (Err f) none tells same puts told =
    subst (λ (fault : Unanswered). Answers {T = Unit {0}} Explaining (Some text) old new before after (Err fault)) (sym told)
    (put_stopped Explaining (Some text) old new next before after said e (told_line old next manner text said none tells same) puts)
