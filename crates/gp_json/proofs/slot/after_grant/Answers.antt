use Rattle.std.proofs.Common.{rules, refl, arith, codes, ◌≡◌}
use Rattle.std.proofs.lemmas.Slice.Eq.{text_from_reads}
use Rattle.gp_json.specs.Slots.{after_grant}
use Rattle.gp_json.proofs.slot.after_grant.Goals as goal

pub returns-in-search : goal.returns-in-search
unfolding after_grant
returns-in-search c =
    let word : c.args.part.now ≡ codes "search" = text_from_reads c.args.part.now (codes "search") (omega arith) (search rules) in
    rw word refl
