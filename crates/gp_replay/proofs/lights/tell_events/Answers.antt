use Rattle.std.proofs.Common.{refl, rules, arith, ◌+◌, ◌*◌, ◌^◌}
use Rattle.gp_script.specs.declared.script.ScriptEvent.TheVariants.{Frames}
use Rattle.gp_replay.proofs.LightLemmas.{said_at_first, said_on, said_stops_on, told_more, told_some_more}
use Rattle.gp_replay.proofs.PlayingLemmas.{keeps_none, keeps_on}
use Rattle.gp_replay.proofs.lights.tell_events.Goals as goal

pub events-init : goal.events-init
events-init g c = record { said = said_at_first _ _ _ (refl, refl, refl); keeps = keeps_none g.P.EventPlayer.playing c.args.player.now; same = (refl, refl, refl) }

pub returns-in_err-tell_event-clause-tells : goal.returns-in_err-tell_event-clause-tells
returns-in_err-tell_event-clause-tells g c =
    said_stops_on _ _ _ _ _ (told_some_more c.args.lights c.args.out.now.mask g.P.EventPlayer.playing c.args.events.now c.events.event-index (Frames 0 0) c.events-test.true) _ _ _ _ _ _ _ _
    c.events.invariant.said (rw c.events.invariant.same.0 at c.in_err-tell_event.ensures.tells) c.from_residual.ensures.1

pub events-preserved : goal.events-preserved
events-preserved g c =
    let playing = g.P.EventPlayer.playing in
    let few = c.event_is_short.ensures in record {
      said = said_on _ _ _ _ (told_more c.args.lights c.args.out.now.mask playing c.args.events.now c.events.event-index (Frames 0 0) c.events-test.true) _ _ _ _ _ _ _
          c.events.invariant.said (rw c.events.invariant.same.0 at c.in_ok-tell_event.ensures.tells);
      keeps = keeps_on playing (c.events.event-index * 2 ^ 32) _ ((c.events.event-index + 1) * 2 ^ 32) _ _ _ (omega (arith, few))
          c.events.invariant.keeps c.in_ok-tell_event.ensures.keeps;
      same = search rules;
    }
