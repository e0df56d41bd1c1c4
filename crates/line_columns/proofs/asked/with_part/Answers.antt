use Rattle.std.proofs.Common.{None, Some, sym, ◌∙◌, arith}
use Rattle.std.proofs.lemmas.Str.Pattern.{split_once_first}
use Rattle.line_columns.specs.Asked.{texts_of, with_key}
use Rattle.line_columns.proofs.PartLemmas.{keyed, unkeyed}
use Rattle.line_columns.proofs.asked.with_part.Goals as goal

pub returns-in-None : goal.returns-in-None
returns-in-None c =
    let none = split_once_first 61 c.args.part.now None c.in-None.ensures.cases (omega arith) in
    sym (unkeyed (texts_of c.args.parts.now) c.args.part.now none)

pub returns-in-Some : goal.returns-in-Some
returns-in-Some c =
    let parts = split_once_first 61 c.args.part.now (Some (c.in-Some.key, c.in-Some.column)) c.in-Some.ensures.cases (omega arith) in
    c.with_key.ensures ∙ (λ i. with_key (texts_of c.args.parts.now) (parts.1 i) (parts.2 i)) ∙ sym (keyed (texts_of c.args.parts.now) c.args.part.now parts.0)
