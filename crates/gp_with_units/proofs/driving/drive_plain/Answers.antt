use Rattle.gp_with_units.proofs.Written.{passed_back}
use Rattle.gp_with_units.proofs.driving.drive_plain.Goals as goal

pub returns-clause-drives : goal.returns-clause-drives
returns-clause-drives g c = record {
  counting = c.in_ok-ended.field-0.counting;
  drives = c.in_ok-ended.ensures.drives;
  answers = passed_back g.W.Write.contents c.in_ok-ended.field-0.counting c.into_parts-writer.result _ c.into_parts-writer.ensures c.passed_on.ensures;
}
