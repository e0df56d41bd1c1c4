-- A drive whose entries are counted (this profile's own rule).
use Rattle.std.specs.Prelude.{◌≡◌, ◌<◌, ℕ, ◌⊎◌, List, [], ◌∷◌, Option, None, Some, Result, Ok, Err, IfOk, IfSome, length}
use Rattle.std.specs.declared.alloc.AllocError.{AllocError}
use Rattle.std.specs.declared.alloc.Global.{Global}
use Rattle.std.specs.declared.vec.Vec.{Vec}
use Rattle.gp_flow.specs.declared.fault.LinesFault.{LinesFault}
use Rattle.gp_stream.specs.Sink.{SinkState}
use Rattle.gp_stream.specs.Source.{SourceState}
use Rattle.gp_script.specs.Script.{ScriptView}
use Rattle.gp_replay.specs.Chassis.{PlayState}
use Rattle.gp_replay.specs.Playing.{LossyPlay}
use Rattle.gp_tally.specs.Counting.{CountingState}
use Rattle.gp_summary.specs.declared.form.SummaryForm.{SummaryForm}
use Rattle.gp_summary.specs.Summary.{IsFresh, SaysCounted}
use Rattle.gp_drive.specs.declared.driven.Driven.{Driven}
use Rattle.gp_drive.specs.declared.fault.DriveFault.{DriveFault}
use Rattle.gp_drive.specs.declared.manner.DriveManner.{DriveManner}
use Rattle.gp_drive.specs.Outcome.{DrivesScriptIn, LeftByChassis, LeftByFibre}

-- of a script without simulated units: the text tells what was counted of all that the writer took, and how a chassis
-- as the drive left it stands
pub record SaysChassis {T W : Type 0} (form : SummaryForm) (manner : DriveManner) (script : ScriptView)
    (from to : SourceState T) (before after : SinkState (CountingState W)) (driven : Result Driven LinesFault)
    (taken text : List ℕ) : Type 0 where
  pub alone : script.units ≡ []
  pub given : PlayState
  pub left : LeftByChassis manner script given driven from to before after
  pub says : SaysCounted form script.mask taken given.world.ports (length script.ports) given.world.free script.licences
      text

-- and of one with simulated units: how a fibre stands
pub record SaysFibre {T W : Type 0} (form : SummaryForm) (manner : DriveManner) (script : ScriptView)
    (from to : SourceState T) (before after : SinkState (CountingState W)) (driven : Result Driven LinesFault)
    (taken text : List ℕ) : Type 0 where
  pub units : 0 < length script.units
  pub given : LossyPlay
  pub left : LeftByFibre manner script given driven from to before after
  pub says : SaysCounted form script.mask taken (given.play.world.fibre.port ∷ []) (length script.ports)
      given.play.world.fibre.free script.licences text

-- what is told at the end, where all lines were answered
abbrev pub summary_if : Result Driven LinesFault → Result (Vec ℕ Global) AllocError
    → Option (Result (Vec ℕ Global) AllocError)
summary_if (Ok driven) summary = Some summary
summary_if (Err fault) summary = None

-- the script was driven by a writer that counts, which took all that was written, and the summary tells of what the
-- drive left
pub record DrivesSummed {T W : Type 0} (form : SummaryForm) (manner : DriveManner) (script : ScriptView)
    (from to : SourceState T) (counting : CountingState W) (driven : Result Driven DriveFault)
    (summary : Option (Result (Vec ℕ Global) AllocError)) : Type 0 where
  pub before : SinkState (CountingState W)
  pub after : SinkState (CountingState W)
  pub fresh : IsFresh before
  pub drives : DrivesScriptIn manner driven from to before after script
  pub writer : counting ≡ after.writer
  pub took : after.held ≡ Some counting.counter.taken
  pub tells : IfSome summary (λ told. IfOk told (λ text. (lines : Driven) × (driven ≡ Ok lines)
      × (SaysChassis form manner script from to before after (Ok lines) counting.counter.taken text.items
      ⊎ SaysFibre form manner script from to before after (Ok lines) counting.counter.taken text.items)))
