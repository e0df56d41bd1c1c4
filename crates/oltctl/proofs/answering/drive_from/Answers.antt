use Rattle.oltctl.proofs.Runs.{drive_found, drive_fault, drive_long}
use Rattle.oltctl.proofs.answering.drive_from.Goals as goal

pub returns-clause-ok : goal.returns-clause-ok
returns-clause-ok g c = drive_found _ c.args.script _ _ _ _ _ _ _ c.run_drive_in.result c.new-script.ensures c.run_drive_in.ensures

pub returns-clause-script : goal.returns-clause-script
returns-clause-script g c = λ fault is. drive_fault _ c.args.script _ _ _ _ _ _ _ c.run_drive_in.result c.new-script.ensures c.run_drive_in.ensures fault is

pub returns-clause-too_long : goal.returns-clause-too_long
returns-clause-too_long g c = λ is. drive_long _ c.args.script _ _ _ _ _ _ _ c.run_drive_in.result c.new-script.ensures c.run_drive_in.ensures is
