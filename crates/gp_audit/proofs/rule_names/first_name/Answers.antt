use Rattle.std.proofs.Common.{None, Some, ◌∷◌, ◌+◌, sym, ap, ◌∙◌, arith, length, length-drop}
use Rattle.std.proofs.lemmas.Str.Pattern.{split_once_first}
use Rattle.std.specs.List.{position_or_len}
use Rattle.gp_audit.specs.Texts.{is_comma, names_of}
use Rattle.gp_audit.proofs.TextLemmas.{names_alone, names_first}
use Rattle.gp_audit.proofs.rule_names.first_name.Goals as goal

pub returns-in-Some-clause-names : goal.returns-in-Some-clause-names
returns-in-Some-clause-names c =
    let parts = split_once_first 44 c.args.list.now (Some (c.in-Some.name, c.in-Some.rest)) c.in-Some.ensures.cases (omega arith) in
    names_first c.args.list.now parts.0 ∙ (λ i. sym parts.1 i ∷ names_of (sym parts.2 i))

pub returns-in-Some-clause-shorter : goal.returns-in-Some-clause-shorter
returns-in-Some-clause-shorter c =
    let parts = split_once_first 44 c.args.list.now (Some (c.in-Some.name, c.in-Some.rest)) c.in-Some.ensures.cases (omega arith) in
    omega (arith, parts.0, ap length parts.2, length-drop (position_or_len is_comma c.args.list.now + 1) c.args.list.now)

pub returns-in-None-clause-names : goal.returns-in-None-clause-names
returns-in-None-clause-names c = names_alone c.args.list.now (split_once_first 44 c.args.list.now None c.in-None.ensures.cases (omega arith))
