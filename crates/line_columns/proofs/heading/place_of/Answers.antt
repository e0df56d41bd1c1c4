use Rattle.std.proofs.Common.{rules, arith}
use Rattle.line_columns.proofs.PlaceLemmas.{none_more}
use Rattle.line_columns.proofs.heading.place_of.Goals as goal

pub places-preserved : goal.places-preserved
places-preserved c = none_more c.args.separator c.args.name.now c.args.heading.now c.places.place _ (search rules) c.places.invariant (search rules)
