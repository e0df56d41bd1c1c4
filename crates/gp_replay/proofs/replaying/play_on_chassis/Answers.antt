use Rattle.std.proofs.Common.{arith, rules, subst, ◌*◌, ◌^◌, ◌<◌, ◌≤◌, length}
use Rattle.gp_script.specs.View.{script_view}
use Rattle.gp_replay.specs.Lights.{TellsScript}
use Rattle.gp_replay.proofs.RoomLemmas.{opening_room}
use Rattle.gp_replay.proofs.ToldLemmas.{chassis_says, tell_ends, tell_refused}
use Rattle.gp_replay.proofs.replaying.play_on_chassis.Goals as goal

pub tell_events-played-requires-clause-room : goal.tell_events-played-requires-clause-room
tell_events-played-requires-clause-room g c =
    let few : length c.args.script.events.items ≤ 1048576 = c.requires.playable.few_events in
    let many = length c.args.script.events.items * 2 ^ 32 in
    let within : many < 2 ^ 64 = omega (arith, few) in
    rw (c.in_ok-player.ensures.player, c.as_slice.ensures.value, c.in_ok-player.ensures.events)
    (many, omega arith, opening_room many c.args.script.ports.items c.args.script.licences within)

pub returns-in_err-player : goal.returns-in_err-player
returns-in_err-player g c = tell_refused c.args.lights (script_view c.args.script) c.args.sink.now _ c.from_residual.ensures.1

pub returns : goal.returns
returns g c =
    let script = script_view c.args.script in
    let played = rw (c.in_ok-player.ensures.player, c.in_ok-player.ensures.mask, c.as_slice.ensures.value, c.in_ok-player.ensures.events) at c.tell_events-played.ensures.tells in
    let done = tell_ends c.args.lights script _ _ _ c.tell_events-played.new.player c.args.sink.now c.tell_events-played.new.out.sink.now _ c.tell_events-played.result _
    (chassis_says c.each_port_runs.ensures c.args.lights script c.requires.no_units) (λ is. absurd (c.tell_events-played.ensures.memory is)) played c.end_play.ensures in
    subst (λ s. TellsScript c.args.lights script c.args.sink.now s c.end_play.result) (search rules) done
