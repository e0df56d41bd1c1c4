use Rattle.std.proofs.Common.{refl}
use Rattle.gp_drive.proofs.DriveLemmas.{turns_left, turns_served, turns_unserved}
use Rattle.gp_drive.proofs.driving.drive_lines.Goals as goal

pub returns-in-Ok-clause-serves : goal.returns-in-Ok-clause-serves
returns-in-Ok-clause-serves g c =
    let served = rw c.in-Ok.is at c.run_lines-served.ensures in
    turns_served c.args.manner g.P.EventPlayer.playing c.args.player c.args.mask c.in-Ok.field-0 _ _ _ _ _ _ _ c.new_in-driver.ensures (rw (c.lines.ensures, c.errors.ensures) refl) served.ok

pub returns-in-Err-clause-serves : goal.returns-in-Err-clause-serves
returns-in-Err-clause-serves g c =
    turns_unserved c.args.manner g.P.EventPlayer.playing c.args.player c.args.mask c.in-Err.fault _ _ _ _ _ _ c.new_in-driver.ensures (rw c.in-Err.is at c.run_lines-served.ensures)

pub returns-in-Ok-clause-left : goal.returns-in-Ok-clause-left
returns-in-Ok-clause-left g c =
    let served = rw c.in-Ok.is at c.run_lines-served.ensures in
    turns_left c.args.manner g.P.EventPlayer.playing c.args.player c.args.mask c.in-Ok.field-0 _ _ _ _ _ _ _ _ c.new_in-driver.ensures (rw (c.lines.ensures, c.errors.ensures) refl) c.into_player-player.ensures served.ok
