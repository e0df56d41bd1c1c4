use Rattle.gp_replay.proofs.LightLemmas.{event_cut, event_told, event_unplayed}
use Rattle.gp_replay.proofs.lights.tell_event.Goals as goal

pub returns-in_err-play_event-clause-tells : goal.returns-in_err-play_event-clause-tells
returns-in_err-play_event-clause-tells g c =
    event_unplayed c.args.lights c.args.out.now.mask g.P.EventPlayer.playing c.args.event.now _ _ _ _ _ _ c.in_err-play_event.ensures.plays c.from_residual.ensures.1

pub returns-in_err-put_light_behind-clause-tells : goal.returns-in_err-put_light_behind-clause-tells
returns-in_err-put_light_behind-clause-tells g c =
    event_cut c.args.lights c.args.out.now.mask g.P.EventPlayer.playing c.args.event.now _ _ _ _ _ _ _ _ _
    c.in_ok-play_event.ensures.plays c.in_err-put_light_behind.ensures c.from_residual-in_err-put_light_behind.ensures.1

pub returns-clause-tells : goal.returns-clause-tells
returns-clause-tells g c =
    event_told c.args.lights c.args.out.now.mask g.P.EventPlayer.playing c.args.event.now _ _ _ _ _ _ _ _
    c.in_ok-play_event.ensures.plays c.in_ok-put_light_behind.ensures
