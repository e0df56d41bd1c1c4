use Rattle.std.proofs.Common.{◌≡◌, ◌≤◌, ◌+◌, ◌*◌, ◌^◌, ◌∷◌, [], ◌∙◌, ℕ, List, Some, IfOk, ap, arith, length, subst, sym}
use Rattle.gp_script.specs.View.{script_view}
use Rattle.gp_replay.specs.Lights.{TellsAll, TellsSome}
use Rattle.gp_replay.specs.Playing.{fibre_playing}
use Rattle.gp_replay.proofs.PlayingLemmas.{fibre_names, opened_fibre_room}
use Rattle.gp_replay.proofs.ToldLemmas.{fibre_says, tell_ends}
use Rattle.gp_summary.specs.Summary.{SaysCounted}
use Rattle.gp_summary.proofs.Sums.{fibre_leaves_said, summary_answered}
use Rattle.gp_summary.proofs.playing.sum_on_fibre.Goals as goal

pub tell_to_end-played-requires-clause-named : goal.tell_to_end-played-requires-clause-named
tell_to_end-played-requires-clause-named g c =
    rw (c.as_slice.ensures.value, c.in_ok-player.ensures.events)
    (fibre_names (script_view c.args.script) c.in_ok-player.field-0.player c.requires.playable c.requires.units c.in_ok-player.ensures.player)

pub tell_to_end-played-requires-clause-room : goal.tell_to_end-played-requires-clause-room
tell_to_end-played-requires-clause-room g c =
    let few : length c.args.script.events.items ≤ 1048576 = c.requires.playable.few_events in
    let many = length c.args.script.events.items * 2 ^ 32 in
    let within : many ≤ 2 ^ 52 + 2 ^ 51 = omega (arith, few) in
    rw (c.as_slice.ensures.value, c.in_ok-player.ensures.events)
    (many, omega arith, opened_fibre_room many (script_view c.args.script) c.in_ok-player.field-0.player c.requires.playable.few_units within c.in_ok-player.ensures.player)

pub returns : goal.returns
returns g c =
    let script = script_view c.args.script in
    let opens = c.in_ok-player.ensures.player in
    let done = c.tell_to_end-played.ensures in
    let start = c.in_ok-player.field-0.player in
    let end = c.tell_to_end-played.new.player in
    let x = c.args.sink in
    let y = done.mid in
    let z = c.tell_to_end-played.new.sink in
    let answer = c.tell_to_end-played.result in
    let lights = c.args.lights in
    let whole = TellsAll lights script.mask fibre_playing script.events in
    let part = TellsSome lights script.mask fibre_playing script.events in
    let told = rw (c.in_ok-player.ensures.mask, c.as_slice.ensures.value, c.in_ok-player.ensures.events) at done.tells in
    let held : z.held ≡ Some z.writer.counter.taken =
    sym c.into_inner-counting.ensures.held ∙ ap (λ w. Some w.counter.taken) c.into_inner-counting.ensures.writer in
    let counter = c.counter.ensures.counter ∙ ap (λ w. w.counter) c.into_inner-counting.ensures.writer in
    let says = subst (λ (t : List ℕ). IfOk c.fibre_summary-summary.result (λ text. SaysCounted c.args.form c.counter.result.now.mask t (end.play.world.fibre.port ∷ []) (length c.counter.result.now.ports) end.play.world.fibre.free script.licences text.items))
    (ap (λ s. s.taken) counter) c.fibre_summary-summary.ensures in
    record {
      before = x;
      after = z;
      fresh = c.requires.fresh;
      summed = record {
        tells = tell_ends lights script whole part start end x y z done.told answer (fibre_says lights script start c.requires.units opens) (λ is. c.requires.units) told done.ends;
        sums = λ ok. summary_answered lights c.args.form script whole part start end
            (λ p. p.play.world.fibre.port ∷ []) (λ p. p.play.world.fibre.free) x y z done.told answer c.fibre_summary-summary.result c.counter.result.now.mask (length c.counter.result.now.ports)
            (fibre_leaves_said lights script start c.requires.units opens) c.requires.fresh told done.ends
            (c.counter.ensures.mask ∙ c.requires.mask) (c.counter.ensures.ports ∙ c.requires.ports) held says ok;
      };
      writer = c.into_inner-counting.ensures.writer;
      held = held;
    }
