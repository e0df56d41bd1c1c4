use Rattle.std.proofs.Common.{arith, ap, rules, subst, Err, IfOk, ◌*◌, ◌^◌, ◌≤◌, length}
use Rattle.gp_script.specs.View.{script_view}
use Rattle.gp_replay.specs.Chassis.{opened_play}
use Rattle.gp_replay.specs.Playing.{chassis_playing}
use Rattle.gp_replay.proofs.ToldLemmas.{chassis_says}
use Rattle.gp_replay.specs.Writing.{EndsPlay}
use Rattle.gp_drive.specs.Drive.{most_turns}
use Rattle.gp_drive.specs.Outcome.{LeavesServed, ServesTurns}
use Rattle.gp_drive.specs.Outcome.Drives.{OnChassis}
use Rattle.gp_drive.proofs.DriveLemmas.{chassis_room_for, drives_to, drives_told, events_unplayed, left_by, room_behind, room_for_less, told_unplayed}
use Rattle.gp_drive.proofs.driving.drive_chassis.Goals as goal

pub tell_events-requires-clause-room : goal.tell_events-requires-clause-room
tell_events-requires-clause-room g c =
    let few : length c.args.script.events.items ≤ 1048576 = c.requires.playable.few_events in
    let many = length c.args.script.events.items * 2 ^ 32 in
    let within : many ≤ 2 ^ 52 = omega (arith, few) in
    rw (c.in_ok-player.ensures.player, c.as_slice.ensures.value, c.in_ok-player.ensures.events)
    (room_for_less chassis_playing many most_turns (opened_play c.args.script.ports.items c.args.script.licences) (chassis_room_for c.args.script.ports.items c.args.script.licences many within))

pub returns-in-Err-clause-unplayed : goal.returns-in-Err-clause-unplayed
returns-in-Err-clause-unplayed g c =
    let script = script_view c.args.script in
    let played = rw (c.in_ok-player.ensures.player, c.in_ok-player.ensures.mask, c.as_slice.ensures.value, c.in_ok-player.ensures.events) at c.in-Err.ensures.tells in
    told_unplayed c.args.manner script _ _ _ c.in-Err.fault _ c.from.ensures
    (events_unplayed c.args.manner script _ _ _ _ _ _ _ _ c.in-Err.fault _ (chassis_says c.each_port_runs.ensures c.args.manner.lights script c.requires.no_units)
    (λ is. absurd (c.in-Err.ensures.memory (ap Err is))) played (subst (λ s. EndsPlay s c.end_play.new.sink (Err c.in-Err.fault) c.end_play.result) (search rules) c.end_play.ensures))

pub drive_lines-player-requires-clause-room : goal.drive_lines-player-requires-clause-room
drive_lines-player-requires-clause-room g c =
    let few : length c.args.script.events.items ≤ 1048576 = c.requires.playable.few_events in
    let many = length c.args.script.events.items * 2 ^ 32 in
    let within : many ≤ 2 ^ 52 = omega (arith, few) in
    let kept = rw (c.in_ok-player.ensures.player, c.as_slice.ensures.value, c.in_ok-player.ensures.events) at c.in_default.ensures.keeps in
    room_behind chassis_playing many _ _ kept (chassis_room_for c.args.script.ports.items c.args.script.licences many within)

pub returns-clause-drives : goal.returns-clause-drives
returns-clause-drives g c =
    let script = script_view c.args.script in
    let written = rw (c.in_ok-player.ensures.player, c.in_ok-player.ensures.mask, c.as_slice.ensures.value, c.in_ok-player.ensures.events) at c.in_default.ensures.tells.ok in
    let driven = rw (c.in_ok-player.ensures.mask) at c.drive_lines-player.ensures.serves in
    (drives_told c.args.manner script _ _ _ _ _ (OnChassis c.requires.no_units (drives_to c.args.manner chassis_playing _ _ script.mask script.events _ _ _ _ _ _ written
    (subst (λ s. ServesTurns c.args.manner chassis_playing c.tell_events.new.player script.mask c.drive_lines-player.result.1 c.args.turns.now c.drive_lines-player.new.turns s c.drive_lines-player.new.sink)
    (search rules) driven))))

pub returns-clause-left : goal.returns-clause-left
returns-clause-left g c =
    let script = script_view c.args.script in
    let written = rw (c.in_ok-player.ensures.player, c.in_ok-player.ensures.mask, c.as_slice.ensures.value, c.in_ok-player.ensures.events) at c.in_default.ensures.tells.ok in
    let left = rw (c.in_ok-player.ensures.mask) at c.drive_lines-player.ensures.left in
    left_by c.args.manner chassis_playing _ _ script.mask script.events _ c.drive_lines-player.result.1 _ _ _ _ _ written
    (subst (λ s. IfOk c.drive_lines-player.result.1
    (λ driven. LeavesServed c.args.manner chassis_playing c.tell_events.new.player script.mask c.drive_lines-player.result.0 driven c.args.turns.now c.drive_lines-player.new.turns s c.drive_lines-player.new.sink))
    (search rules) left)
