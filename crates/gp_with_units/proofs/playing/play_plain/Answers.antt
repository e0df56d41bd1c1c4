use Rattle.gp_with_units.proofs.Written.{passed_back}
use Rattle.gp_with_units.proofs.playing.play_plain.Goals as goal

pub returns : goal.returns
returns g c = record {
  counting = c.in_ok-ended.field-0.counting;
  played = c.in_ok-ended.field-0.ended.played;
  summary = c.in_ok-ended.field-0.ended.summary;
  plays = c.in_ok-ended.ensures;
  mid = g.W.Write.contents c.into_parts-writer.result.0;
  trace = passed_back g.W.Write.contents c.in_ok-ended.field-0.counting c.into_parts-writer.result _ c.into_parts-writer.ensures c.passed_on.ensures;
  sums = c.write_summary-played.ensures;
}
