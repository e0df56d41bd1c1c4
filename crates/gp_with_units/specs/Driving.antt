-- A script that is driven, and what became of its ports and units at the end (this profile's own rule).
use Rattle.std.specs.Prelude.{◌≡◌, ℕ, List, Option, None, Some, Result, Ok, Err}
use Rattle.std.specs.Io.KnownBytes.{Appends}
use Rattle.std.specs.declared.alloc.AllocError.{AllocError}
use Rattle.std.specs.declared.alloc.Global.{Global}
use Rattle.std.specs.declared.vec.Vec.{Vec}
use Rattle.gp_explain.specs.Telling.{Manner}
use Rattle.gp_flow.specs.declared.fault.LinesFault.TheVariants.{Line}
use Rattle.gp_flow.specs.declared.fault.Unanswered.{Unanswered}
use Rattle.gp_flow.specs.declared.fault.Unanswered.TheVariants as unanswered
use Rattle.gp_stream.specs.Source.{SourceState}
use Rattle.gp_script.specs.Script.{ScriptView}
use Rattle.gp_drive.specs.declared.driven.Driven.{Driven}
use Rattle.gp_drive.specs.declared.fault.DriveFault.{DriveFault}
use Rattle.gp_drive.specs.declared.fault.DriveFault.TheVariants.{Turns}
use Rattle.gp_drive.specs.declared.manner.DriveManner.{DriveManner}
use Rattle.gp_tally.specs.Counting.{CountingState}
use Rattle.gp_tell.specs.Teller.{TellerState}
use Rattle.gp_tell.specs.declared.fault.TellFault.{TellFault}
use Rattle.gp_tell.specs.declared.fault.TellFault.TheVariants as tells
use Rattle.gp_summary.specs.declared.form.SummaryForm.{SummaryForm}
use Rattle.gp_summed.specs.declared.driving.DriveEnded.{DriveEnded}
use Rattle.gp_summed.specs.Driving.{DrivesSummed}
use Rattle.gp_with_units.specs.Behind.{TellsThen}

-- a drive that ended for this reason while lines were answered; then there is no summary
abbrev pub unanswered_for : Unanswered → DriveEnded
unanswered_for fault = record { driven = Err (Turns (Line fault)); summary = None }

-- how a drive ends whose teller could not write, by how it ended without
abbrev pub drive_unwritten : Result Driven DriveFault → Option (Result (Vec ℕ Global) AllocError) → DriveEnded
drive_unwritten (Ok driven) summary = unanswered_for unanswered.Write
drive_unwritten (Err fault) summary = record { driven = Err fault; summary = summary }

-- how a drive ends whose teller had a fault, by how it ended without: where memory was refused to the teller so, and
-- else by the first fault
abbrev pub drive_ended_by : TellFault → DriveEnded → DriveEnded
drive_ended_by tells.OutOfMemory ended = unanswered_for unanswered.OutOfMemory
drive_ended_by tells.Write ended = drive_unwritten ended.driven ended.summary

-- a script was driven, and its answers were written as they are
pub record DrivesWithUnits (T W : Type 0) (form : SummaryForm) (manner : DriveManner) (script : ScriptView)
    (from to : SourceState T) (old new : Option (List ℕ)) (ended : DriveEnded) : Type 0 where
  pub counting : CountingState W
  pub drives : DrivesSummed form manner script from to counting ended.driven ended.summary
  pub answers : Appends old new counting.counter.taken

-- a script was driven, and its answers were written as a teller tells them that begins so
pub record DrivesTold (T W : Type 0) (form : SummaryForm) (told : Manner) (manner : DriveManner) (script : ScriptView)
    (from to : SourceState T) (old new : Option (List ℕ)) (answer : DriveEnded) : Type 0 where
  pub counting : CountingState (TellerState W)
  pub ended : DriveEnded
  pub drives : DrivesSummed form manner script from to counting ended.driven ended.summary
  -- the teller took what was counted
  pub took : counting.inner.taken ≡ counting.counter.taken
  pub tells : TellsThen told counting.inner (λ before behind end. (behind ≡ before) × (end ≡ ended))
      (λ fault. drive_ended_by fault ended) old new answer

-- what is answered at the end of a drive, with what became of ports and units: where memory was refused for that, so
abbrev pub drive_answer : Result Driven DriveFault → Option (Result (Vec ℕ Global) AllocError)
    → Result Driven DriveFault
drive_answer driven (Some (Err memory)) = Err (Turns (Line unanswered.OutOfMemory))
drive_answer driven (Some (Ok text)) = driven
drive_answer driven None = driven
