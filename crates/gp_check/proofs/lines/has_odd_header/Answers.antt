use Rattle.std.proofs.Common.{rules}
use Rattle.std.proofs.lemmas.Iterator.Search.{any_from_yields_List}
use Rattle.std.proofs.lemmas.Iterator.Splits.{YieldsList-from_lines}
use Rattle.gp_check.specs.Lines.{is_odd_header}
use Rattle.gp_check.proofs.lines.has_odd_header.Goals as goal

pub returns : goal.returns
returns c = any_from_yields_List is_odd_header _ _ _ c.any.ensures.ran (YieldsList-from_lines c.args.text.now c.lines.ensures.rest) (λ x b q k. search rules)
