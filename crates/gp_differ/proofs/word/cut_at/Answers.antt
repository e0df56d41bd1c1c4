use Rattle.std.proofs.Common.{rules, arith}
use Rattle.std.proofs.lemmas.List.{take_rest}
use Rattle.gp_differ.proofs.CutLemmas.{cut_step}
use Rattle.gp_differ.proofs.word.cut_at.Goals as goal

pub places-preserved : goal.places-preserved
places-preserved c = (
  omega arith,
  cut_step c.args.word.now c.args.text.now _ c.places.at c.behind.result (omega arith) (search rules) c.behind.ensures (take_rest c.args.text.now c.places.at) c.places.invariant.1,
)
