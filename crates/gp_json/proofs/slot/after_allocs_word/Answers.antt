use Rattle.std.proofs.Common.{rules, refl, arith, codes, ◌≡◌}
use Rattle.std.proofs.lemmas.Slice.Eq.{text_from_reads}
use Rattle.gp_json.specs.Slots.{after_allocs_word}
use Rattle.gp_json.proofs.slot.after_allocs_word.Goals as goal

pub returns-in-allocs : goal.returns-in-allocs
unfolding after_allocs_word
returns-in-allocs c =
    let word : c.args.part.now ≡ codes "allocs" = text_from_reads c.args.part.now (codes "allocs") (omega arith) (search rules) in
    rw word refl
