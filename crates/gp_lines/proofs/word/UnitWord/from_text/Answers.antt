use Rattle.std.proofs.Common.{rules, refl, arith, codes, ◌≡◌}
use Rattle.std.proofs.lemmas.Slice.Eq.{text_from_reads}
use Rattle.gp_lines.specs.TurnReading.{unit_word_of}
use Rattle.gp_lines.proofs.word.UnitWord.from_text.Goals as goal

pub returns-in-show : goal.returns-in-show
unfolding unit_word_of
returns-in-show c =
    let word : c.args.text.now ≡ codes "show" = text_from_reads c.args.text.now (codes "show") (omega arith) (search rules) in
    rw word refl
