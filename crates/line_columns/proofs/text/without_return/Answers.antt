use Rattle.std.proofs.Common.{sym, ap, ◌∙◌, codes}
use Rattle.std.proofs.lemmas.Bool.Decides.{Decides-eqb}
use Rattle.std.proofs.lemmas.Slice.Eq.{strip_suffix_is}
use Rattle.line_columns.specs.Layout as spec
use Rattle.line_columns.proofs.ReturnLemmas.{return_dropped, return_kept}
use Rattle.line_columns.proofs.text.without_return.Goals as goal

pub returns-in-Some : goal.returns-in-Some
returns-in-Some c =
    let whole = rw c.in-Some.is at (strip_suffix_is Decides-eqb c.args.line.now (codes "\r") c.strip_suffix.result c.strip_suffix.ensures.cases) in
    sym (ap spec.without_return whole ∙ return_dropped c.in-Some.text.now)

pub returns-in-None : goal.returns-in-None
returns-in-None c =
    let none = rw c.in-None.is at (strip_suffix_is Decides-eqb c.args.line.now (codes "\r") c.strip_suffix.result c.strip_suffix.ensures.cases) in
    sym (return_kept c.args.line.now none)
