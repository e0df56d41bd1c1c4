-- A trace that is told again while its lines are counted and heard (this profile's own rule).
use Rattle.std.specs.Prelude.{◌≡◌, ℕ, false, List, Some, Result, IfOk}
use Rattle.std.specs.declared.alloc.AllocError.{AllocError}
use Rattle.std.specs.declared.alloc.Global.{Global}
use Rattle.std.specs.declared.vec.Vec.{Vec}
use Rattle.gp_ploam.specs.declared.check.Mask.{Mask}
use Rattle.gp_machine.specs.Config.{max_ports}
use Rattle.gp_explain.specs.declared.fault.ExplainFault.{ExplainFault}
use Rattle.gp_explain.specs.declared.form.Form.TheVariants.{Plain}
use Rattle.gp_explain.specs.Outcome.{ExplainsTrace}
use Rattle.gp_explain.specs.Telling.{Manner, no_frames}
use Rattle.gp_stream.specs.Sink.{SinkState}
use Rattle.gp_stream.specs.Source.{SourceState}
use Rattle.gp_tally.specs.Counting.{CountingState}
use Rattle.gp_summary.specs.declared.form.SummaryForm.{SummaryForm}
use Rattle.gp_summary.specs.Summary.{IsFresh}
use Rattle.gp_summary.specs.Heard.{TellsHeard}
use Rattle.gp_audit.specs.Port.{PortState}
use Rattle.gp_summed.specs.declared.codes.HeardCodes.{HeardCodes}
use Rattle.gp_summed.specs.Codes.{codes_of}
use Rattle.gp_summed.specs.Hearing.{AreHeard, HearingState}

-- lines are told as they are
abbrev pub as_they_are : Mask → Manner
as_they_are mask = record { mask = mask; form = Plain; timed = false; frames = no_frames }

-- the lines of a trace were told as they are, up to the first that is none of a trace, and the summary tells what was
-- counted of all that was told, and how units stand by what was heard of it: that is what the writer took
pub record ExplainsSummed {R W : Type 0} (form : SummaryForm) (mask : Mask) (from to : SourceState R)
    (counting : CountingState W) (told : Result ℕ ExplainFault) (summary : Result (Vec ℕ Global) AllocError)
    : Type 0 where
  pub before : SinkState (HearingState W)
  pub after : SinkState (HearingState W)
  pub fresh : IsFresh before
  pub explains : ExplainsTrace (as_they_are mask) from to before after told
  pub writer : counting ≡ after.writer.counting
  pub took : after.held ≡ Some counting.counter.taken
  pub tells : IfOk summary (λ text. (ports : List PortState) × AreHeard mask counting.counter.taken ports
      × TellsHeard form mask counting.counter.taken max_ports ports text.items)

-- what is told of the codes is what was heard of these octets
abbrev pub HasCodes : Mask → List ℕ → Result HeardCodes AllocError → Type 0
HasCodes mask taken codes =
    IfOk codes (λ heard. (ports : List PortState) × AreHeard mask taken ports × (heard ≡ codes_of ports max_ports))
