use Rattle.std.proofs.Common.{sym, ◌∙◌}
use Rattle.std.proofs.lemmas.Bool.Decides.{Decides-eqb}
use Rattle.std.proofs.lemmas.Slice.Eq.{strip_prefix_is}
use Rattle.gp_log.proofs.NextLemmas.{word_next, no_word, word_goes_on}
use Rattle.gp_log.proofs.fields.behind_word.Goals as goal

pub returns-in_default : goal.returns-in_default
returns-in_default c =
    let none = rw c.in_default.is at (strip_prefix_is Decides-eqb c.trimmed.result.now c.args.word.now c.strip_prefix.result c.strip_prefix.ensures.cases) in
    no_word c.args.text.now c.args.word.now (λ rest is. none rest (c.trimmed.ensures ∙ is))

pub returns-then-is_parted : goal.returns-then-is_parted
returns-then-is_parted c =
    let is = rw c.in-Some.is at (strip_prefix_is Decides-eqb c.trimmed.result.now c.args.word.now c.strip_prefix.result c.strip_prefix.ensures.cases) in
    word_next c.args.text.now c.args.word.now c.in-Some.rest.now (sym c.trimmed.ensures ∙ is) c.requires (sym c.is_parted.ensures ∙ c.if-is_parted.true)

pub returns-else-is_parted : goal.returns-else-is_parted
returns-else-is_parted c =
    let is = rw c.in-Some.is at (strip_prefix_is Decides-eqb c.trimmed.result.now c.args.word.now c.strip_prefix.result c.strip_prefix.ensures.cases) in
    word_goes_on c.args.text.now c.args.word.now c.in-Some.rest.now (sym c.trimmed.ensures ∙ is) c.requires (sym c.is_parted.ensures ∙ c.if-is_parted.false)
