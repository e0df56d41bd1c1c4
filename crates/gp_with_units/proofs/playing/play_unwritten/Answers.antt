use Rattle.std.proofs.Common.{inr}
use Rattle.gp_with_units.proofs.playing.play_unwritten.Goals as goal

pub returns : goal.returns
returns g c = inr (record {
  counting = c.in_ok-ended.field-0.counting;
  played = c.in_ok-ended.field-0.ended.played;
  summary = c.in_ok-ended.field-0.ended.summary;
  plays = c.in_ok-ended.ensures;
  sums = c.write_summary.ensures;
})
