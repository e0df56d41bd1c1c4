use Rattle.std.proofs.Common.{None, Some, ◌∷◌, ◌+◌, sym, ap, ◌∙◌, arith, length, length-drop}
use Rattle.std.proofs.lemmas.Str.Pattern.{split_once_first}
use Rattle.std.specs.List.{position_or_len}
use Rattle.line_columns.specs.Asked.{is_comma, parts_of}
use Rattle.line_columns.proofs.PartLemmas.{parts_alone, parts_first}
use Rattle.line_columns.proofs.asked.first_part.Goals as goal

pub returns-in-Some-clause-parts : goal.returns-in-Some-clause-parts
returns-in-Some-clause-parts c =
    let parts = split_once_first 44 c.args.text.now (Some (c.in-Some.part, c.in-Some.rest)) c.in-Some.ensures.cases (omega arith) in
    parts_first c.args.text.now parts.0 ∙ (λ i. sym parts.1 i ∷ parts_of (sym parts.2 i))

pub returns-in-Some-clause-shorter : goal.returns-in-Some-clause-shorter
returns-in-Some-clause-shorter c =
    let parts = split_once_first 44 c.args.text.now (Some (c.in-Some.part, c.in-Some.rest)) c.in-Some.ensures.cases (omega arith) in
    omega (arith, parts.0, ap length parts.2, length-drop (position_or_len is_comma c.args.text.now + 1) c.args.text.now)

pub returns-in-None-clause-parts : goal.returns-in-None-clause-parts
returns-in-None-clause-parts c = parts_alone c.args.text.now (split_once_first 44 c.args.text.now None c.in-None.ensures.cases (omega arith))
