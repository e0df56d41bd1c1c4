use Rattle.std.proofs.lemmas.Bool.Decides.{Decides-eqb}
use Rattle.std.proofs.lemmas.Slice.Eq.{strip_prefix_is}
use Rattle.gp_decode.proofs.TextLemmas.{is_behind}
use Rattle.gp_code_objects.proofs.spelled.behind.Goals as goal

pub returns : goal.returns
returns c =
    is_behind c.args.word.now c.args.text.now _ (strip_prefix_is Decides-eqb c.args.text.now c.args.word.now c.strip_prefix.result c.strip_prefix.ensures.cases)
