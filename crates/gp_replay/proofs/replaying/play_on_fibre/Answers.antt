use Rattle.std.proofs.Common.{◌≤◌, ◌+◌, ◌*◌, ◌^◌, arith, length, rules, subst}
use Rattle.gp_script.specs.View.{script_view}
use Rattle.gp_replay.specs.Lights.{TellsScript}
use Rattle.gp_replay.proofs.PlayingLemmas.{fibre_names, opened_fibre_room}
use Rattle.gp_replay.proofs.ToldLemmas.{fibre_says, tell_ends, tell_refused}
use Rattle.gp_replay.proofs.replaying.play_on_fibre.Goals as goal

pub tell_events-outcome-requires-clause-named : goal.tell_events-outcome-requires-clause-named
tell_events-outcome-requires-clause-named g c =
    rw (c.as_slice.ensures.value, c.in_ok-player.ensures.events)
    (fibre_names (script_view c.args.script) c.in_ok-player.field-0.player c.requires.playable c.requires.units c.in_ok-player.ensures.player)

pub tell_events-outcome-requires-clause-room : goal.tell_events-outcome-requires-clause-room
tell_events-outcome-requires-clause-room g c =
    let few : length c.args.script.events.items ≤ 1048576 = c.requires.playable.few_events in
    let many = length c.args.script.events.items * 2 ^ 32 in
    let within : many ≤ 2 ^ 52 + 2 ^ 51 = omega (arith, few) in
    rw (c.as_slice.ensures.value, c.in_ok-player.ensures.events)
    (many, omega arith, opened_fibre_room many (script_view c.args.script) c.in_ok-player.field-0.player c.requires.playable.few_units within c.in_ok-player.ensures.player)

pub returns-in_err-player : goal.returns-in_err-player
returns-in_err-player g c = tell_refused c.args.lights (script_view c.args.script) c.args.sink.now _ c.from_residual.ensures.1

pub returns : goal.returns
returns g c =
    let script = script_view c.args.script in
    let start = c.in_ok-player.field-0.player in
    let told = rw (c.in_ok-player.ensures.mask, c.as_slice.ensures.value, c.in_ok-player.ensures.events) at c.tell_events-outcome.ensures.tells in
    let done = tell_ends c.args.lights script _ _ start c.tell_events-outcome.new.player c.args.sink.now c.tell_events-outcome.new.out.sink.now _ c.tell_events-outcome.result _
    (fibre_says c.args.lights script start c.requires.units c.in_ok-player.ensures.player) (λ is. c.requires.units) told c.end_play.ensures in
    subst (λ s. TellsScript c.args.lights script c.args.sink.now s c.end_play.result) (search rules) done
