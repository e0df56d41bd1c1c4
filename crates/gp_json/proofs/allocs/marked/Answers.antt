use Rattle.std.proofs.Common.{sym, ap, ◌∙◌, codes}
use Rattle.std.proofs.lemmas.Bool.Decides.{Decides-eqb}
use Rattle.std.proofs.lemmas.Slice.Eq.{strip_suffix_is}
use Rattle.gp_json.specs.Allocs.{is_leaving, without_mark}
use Rattle.gp_json.proofs.AllocLemmas.{mark_dropped, mark_says, no_mark, none_says}
use Rattle.gp_json.proofs.allocs.marked.Goals as goal

pub returns-in-Some-clause-number : goal.returns-in-Some-clause-number
returns-in-Some-clause-number c =
    let whole = rw c.in-Some.is at (strip_suffix_is Decides-eqb c.args.part.now (codes "!") c.strip_suffix.result c.strip_suffix.ensures.cases) in
    sym (ap without_mark whole ∙ mark_dropped c.in-Some.number.now)

pub returns-in-Some-clause-leaving : goal.returns-in-Some-clause-leaving
returns-in-Some-clause-leaving c =
    let whole = rw c.in-Some.is at (strip_suffix_is Decides-eqb c.args.part.now (codes "!") c.strip_suffix.result c.strip_suffix.ensures.cases) in
    sym (ap is_leaving whole ∙ mark_says c.in-Some.number.now)

pub returns-in-None-clause-number : goal.returns-in-None-clause-number
returns-in-None-clause-number c =
    let none = rw c.in-None.is at (strip_suffix_is Decides-eqb c.args.part.now (codes "!") c.strip_suffix.result c.strip_suffix.ensures.cases) in
    sym (no_mark c.args.part.now none)

pub returns-in-None-clause-leaving : goal.returns-in-None-clause-leaving
returns-in-None-clause-leaving c =
    let none = rw c.in-None.is at (strip_suffix_is Decides-eqb c.args.part.now (codes "!") c.strip_suffix.result c.strip_suffix.ensures.cases) in
    sym (none_says c.args.part.now none)
