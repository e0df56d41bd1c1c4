use Rattle.std.proofs.Common.{inr}
use Rattle.gp_with_units.proofs.explaining.explain_unwritten.Goals as goal

pub returns-in-Ok : goal.returns-in-Ok
returns-in-Ok g c = inr (record {
  counting = c.in-Ok.explained.counting;
  lines = c.in-Ok.explained.told;
  summary = c.in-Ok.explained.summary;
  codes = c.in-Ok.explained.codes;
  explains = c.in-Ok.ensures.explained;
  heard = c.in-Ok.ensures.codes;
  sums = c.write_counted.ensures;
})
