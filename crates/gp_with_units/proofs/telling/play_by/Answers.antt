use Rattle.std.proofs.Common.{rules}
use Rattle.gp_with_units.proofs.Written.{tells_play}
use Rattle.gp_with_units.proofs.telling.play_by.Goals as goal

pub returns : goal.returns
returns g c =
    tells_play c.in_ok-sink.sink c.play_with_lights-played.new.sink c.into_inner.result c.into_inner.ensures.writer (search rules, search rules)
    c.into_inner.ensures.held g.B.Began.manner _ c.play_with_lights-played.result _ _ c.end_play.result.played c.play_with_lights-played.ensures c.end_play.ensures
