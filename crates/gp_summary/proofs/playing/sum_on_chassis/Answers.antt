use Rattle.std.proofs.Common.{◌≡◌, ◌<◌, ◌≤◌, ◌*◌, ◌^◌, ◌∙◌, ℕ, List, Some, IfOk, ap, arith, length, subst, sym}
use Rattle.gp_script.specs.View.{script_view}
use Rattle.gp_replay.specs.Chassis.{opening_play}
use Rattle.gp_replay.specs.Lights.{TellsAll, TellsOn, TellsSome}
use Rattle.gp_replay.specs.Playing.{chassis_playing}
use Rattle.gp_replay.proofs.RoomLemmas.{opening_room}
use Rattle.gp_replay.proofs.ToldLemmas.{chassis_says, tell_ends}
use Rattle.gp_summary.specs.Summary.{SaysCounted}
use Rattle.gp_summary.proofs.Sums.{chassis_leaves_said, chassis_names, summary_answered}
use Rattle.gp_summary.proofs.playing.sum_on_chassis.Goals as goal

pub tell_to_end-played-requires-clause-named : goal.tell_to_end-played-requires-clause-named
tell_to_end-played-requires-clause-named g c =
    rw (c.in_ok-player.ensures.player, c.as_slice.ensures.value, c.in_ok-player.ensures.events)
    (chassis_names (script_view c.args.script) c.requires.no_units c.requires.playable.events)

pub tell_to_end-played-requires-clause-room : goal.tell_to_end-played-requires-clause-room
tell_to_end-played-requires-clause-room g c =
    let few : length c.args.script.events.items ≤ 1048576 = c.requires.playable.few_events in
    let many = length c.args.script.events.items * 2 ^ 32 in
    let within : many < 2 ^ 64 = omega (arith, few) in
    rw (c.in_ok-player.ensures.player, c.as_slice.ensures.value, c.in_ok-player.ensures.events)
    (many, omega arith, opening_room many c.args.script.ports.items c.args.script.licences within)

pub returns : goal.returns
returns g c =
    let script = script_view c.args.script in
    let runs = c.each_port_runs.ensures in
    let none = c.requires.no_units in
    let done = c.tell_to_end-played.ensures in
    let start = opening_play script in
    let end = c.tell_to_end-played.new.player in
    let x = c.args.sink in
    let y = done.mid in
    let z = c.tell_to_end-played.new.sink in
    let answer = c.tell_to_end-played.result in
    let lights = c.args.lights in
    let whole = TellsAll lights script.mask chassis_playing script.events in
    let part = TellsSome lights script.mask chassis_playing script.events in
    let told : TellsOn whole part start end x y done.told =
    rw (c.in_ok-player.ensures.player, c.in_ok-player.ensures.mask, c.as_slice.ensures.value, c.in_ok-player.ensures.events) at done.tells in
    let held : z.held ≡ Some z.writer.counter.taken =
    sym c.into_inner-counting.ensures.held ∙ ap (λ w. Some w.counter.taken) c.into_inner-counting.ensures.writer in
    let counter = c.counter.ensures.counter ∙ ap (λ w. w.counter) c.into_inner-counting.ensures.writer in
    let says = subst (λ (t : List ℕ). IfOk c.chassis_summary-summary.result (λ text. SaysCounted c.args.form c.counter.result.now.mask t end.world.ports (length c.counter.result.now.ports) end.world.free script.licences text.items))
    (ap (λ s. s.taken) counter) c.chassis_summary-summary.ensures in
    record {
      before = x;
      after = z;
      fresh = c.requires.fresh;
      summed = record {
        tells = tell_ends lights script whole part start end x y z done.told answer (chassis_says runs lights script none) (λ is. absurd (done.memory is)) told done.ends;
        sums = λ ok. summary_answered lights c.args.form script whole part start end
            (λ p. p.world.ports) (λ p. p.world.free) x y z done.told answer c.chassis_summary-summary.result c.counter.result.now.mask (length c.counter.result.now.ports)
            (chassis_leaves_said runs lights script none) c.requires.fresh told done.ends (c.counter.ensures.mask ∙ c.requires.mask) (c.counter.ensures.ports ∙ c.requires.ports) held says ok;
      };
      writer = c.into_inner-counting.ensures.writer;
      held = held;
    }
