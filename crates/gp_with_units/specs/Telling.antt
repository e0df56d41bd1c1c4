-- A play or a drive whose trace is told, and nothing behind it (this profile's own rule).
use Rattle.std.specs.Prelude.{◌≡◌, ℕ, true, List, Option, None, Some, Result}
use Rattle.gp_explain.specs.Telling.{Manner}
use Rattle.gp_stream.specs.Sink.{SinkState}
use Rattle.gp_stream.specs.Source.{SourceState}
use Rattle.gp_script.specs.Script.{ScriptView}
use Rattle.gp_replay.specs.declared.fault.PlayFault.{PlayFault}
use Rattle.gp_replay.specs.Lights.{TellsScript}
use Rattle.gp_drive.specs.declared.driven.Driven.{Driven}
use Rattle.gp_drive.specs.declared.fault.DriveFault.{DriveFault}
use Rattle.gp_drive.specs.declared.manner.DriveManner.{DriveManner}
use Rattle.gp_drive.specs.Outcome.{DrivesScriptIn}
use Rattle.gp_tell.specs.Teller.{TellerState}
use Rattle.gp_summary.specs.Summary.{IsFresh}
use Rattle.gp_summed.specs.declared.driving.DriveEnded.{DriveEnded}
use Rattle.gp_with_units.specs.Behind.{TellsThen}
use Rattle.gp_with_units.specs.Driving.{drive_ended_by}
use Rattle.gp_with_units.specs.Playing.{play_ended_by}

-- a script was played, and its trace was written as a teller tells it that begins so, with the light that comes and goes
pub record TellsPlay (W : Type 0) (manner : Manner) (script : ScriptView) (old new : Option (List ℕ))
    (answer : Result (Unit {0}) PlayFault) : Type 0 where
  pub before : SinkState (TellerState W)
  pub after : SinkState (TellerState W)
  pub fresh : IsFresh before
  pub played : Result (Unit {0}) PlayFault
  pub plays : TellsScript true script before after played
  -- what was handed on is what the teller took
  pub held : after.held ≡ Some after.writer.taken
  pub tells : TellsThen manner after.writer (λ mid behind end. (behind ≡ mid) × (end ≡ played))
      (λ fault. play_ended_by fault played) old new answer

-- a script was driven, and what was answered was written so; of its ports and units nothing is told
pub record TellsDrive (T W : Type 0) (told : Manner) (manner : DriveManner) (script : ScriptView)
    (from to : SourceState T) (old new : Option (List ℕ)) (answer : DriveEnded) : Type 0 where
  pub before : SinkState (TellerState W)
  pub after : SinkState (TellerState W)
  pub fresh : IsFresh before
  pub driven : Result Driven DriveFault
  pub drives : DrivesScriptIn manner driven from to before after script
  -- what was handed on is what the teller took
  pub held : after.held ≡ Some after.writer.taken
  pub tells : TellsThen told after.writer
      (λ mid behind end. (behind ≡ mid) × (end ≡ record { driven = driven; summary = None }))
      (λ fault. drive_ended_by fault (record { driven = driven; summary = None })) old new answer
