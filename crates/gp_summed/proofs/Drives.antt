-- Drives whose entries are counted.
use Rattle.std.proofs.Common.{◌≡◌, ◌<◌, ℕ, ◌⊎◌, inl, inr, List, [], ◌∷◌, Option, Result, Ok, Err, IfOk, IfSome, length, refl, subst, sym}
use Rattle.std.specs.declared.alloc.AllocError.{AllocError}
use Rattle.std.specs.declared.alloc.Global.{Global}
use Rattle.std.specs.declared.vec.Vec.{Vec}
use Rattle.gp_ploam.specs.declared.check.Mask.{Mask}
use Rattle.gp_machine.specs.State.{PortState}
use Rattle.gp_flow.specs.declared.fault.LinesFault.{LinesFault}
use Rattle.gp_stream.specs.Sink.{SinkState}
use Rattle.gp_stream.specs.Source.{SourceState}
use Rattle.gp_script.specs.Script.{ScriptView}
use Rattle.gp_replay.specs.Chassis.{PlayState}
use Rattle.gp_replay.specs.Playing.{LossyPlay}
use Rattle.gp_tally.specs.Counting.{CountingState}
use Rattle.gp_summary.specs.declared.form.SummaryForm.{SummaryForm}
use Rattle.gp_summary.specs.Summary.{SaysCounted}
use Rattle.gp_drive.specs.declared.driven.Driven.{Driven}
use Rattle.gp_drive.specs.declared.fault.DriveFault.{DriveFault}
use Rattle.gp_drive.specs.declared.manner.DriveManner.{DriveManner}
use Rattle.gp_drive.specs.Outcome.{LeftByChassis, LeftByFibre, told}
use Rattle.gp_summed.specs.Driving.{DrivesSummed, SaysChassis, SaysFibre, summary_if}

-- what is said of a counter is said of what it took
pub says_of : (form : SummaryForm) (mask codes : Mask) (taken octets : List ℕ) (states : List PortState) (count ports free licences : ℕ)
    (summary : Result (Vec ℕ Global) AllocError) → mask ≡ codes → taken ≡ octets → count ≡ ports
    → IfOk summary (λ text. SaysCounted form mask taken states count free licences text.items)
    → IfOk summary (λ text. SaysCounted form codes octets states ports free licences text.items)
says_of form mask codes taken octets states count ports free licences summary masked took wide says =
    subst (λ (m : Mask). IfOk summary (λ text. SaysCounted form m octets states ports free licences text.items)) masked
    (subst (λ (t : List ℕ). IfOk summary (λ text. SaysCounted form mask t states ports free licences text.items)) took
    (subst (λ (n : ℕ). IfOk summary (λ text. SaysCounted form mask taken states n free licences text.items)) wide says))

-- what is told of a chassis, where all lines were answered
pub chassis_told : {T W : Type 0} (form : SummaryForm) (manner : DriveManner) (script : ScriptView) (from to : SourceState T)
    (before after : SinkState (CountingState W)) (taken : List ℕ) (given : PlayState) (driven : Result Driven LinesFault)
    (summary : Result (Vec ℕ Global) AllocError) → script.units ≡ [] → LeftByChassis manner script given driven from to before after
    → IfOk summary (λ text. SaysCounted form script.mask taken given.world.ports (length script.ports) given.world.free script.licences text.items)
    → IfSome (summary_if driven summary) (λ answer. IfOk answer (λ text. (lines : Driven) × (told driven ≡ Ok lines)
    × (SaysChassis form manner script from to before after (Ok lines) taken text.items
    ⊎ SaysFibre form manner script from to before after (Ok lines) taken text.items)))
chassis_told form manner script from to before after taken given (Ok lines) (Ok text) alone left says =
    (lines, refl, inl (record { alone = alone; given = given; left = left; says = says }))
chassis_told form manner script from to before after taken given (Ok lines) (Err refused) alone left says = tt
chassis_told form manner script from to before after taken given (Err fault) summary alone left says = tt

-- and of a fibre
pub fibre_told : {T W : Type 0} (form : SummaryForm) (manner : DriveManner) (script : ScriptView) (from to : SourceState T)
    (before after : SinkState (CountingState W)) (taken : List ℕ) (given : LossyPlay) (driven : Result Driven LinesFault)
    (summary : Result (Vec ℕ Global) AllocError) → 0 < length script.units → LeftByFibre manner script given driven from to before after
    → IfOk summary (λ text. SaysCounted form script.mask taken (given.play.world.fibre.port ∷ []) (length script.ports) given.play.world.fibre.free script.licences text.items)
    → IfSome (summary_if driven summary) (λ answer. IfOk answer (λ text. (lines : Driven) × (told driven ≡ Ok lines)
    × (SaysChassis form manner script from to before after (Ok lines) taken text.items
    ⊎ SaysFibre form manner script from to before after (Ok lines) taken text.items)))
fibre_told form manner script from to before after taken given (Ok lines) (Ok text) units left says =
    (lines, refl, inr (record { units = units; given = given; left = left; says = says }))
fibre_told form manner script from to before after taken given (Ok lines) (Err refused) units left says = tt
fibre_told form manner script from to before after taken given (Err fault) summary units left says = tt

-- what was answered so is answered
pub answered_so : {T W : Type 0} (form : SummaryForm) (manner : DriveManner) (script : ScriptView) (from to : SourceState T)
    (counting counted : CountingState W) (answer driven : Result Driven DriveFault) (summary lines : Option (Result (Vec ℕ Global) AllocError))
    → counted ≡ counting → driven ≡ answer → lines ≡ summary → DrivesSummed form manner script from to counting answer summary
    → DrivesSummed form manner script from to counted driven lines
answered_so form manner script from to counting counted answer driven summary lines same told_so said d =
    subst (λ (w : CountingState _). DrivesSummed form manner script from to w driven lines) (sym same)
    (subst (λ (a : Result Driven DriveFault). DrivesSummed form manner script from to counting a lines) (sym told_so)
    (subst (λ (s : Option (Result (Vec ℕ Global) AllocError)). DrivesSummed form manner script from to counting answer s) (sym said) d))
