use Rattle.std.proofs.Common.{rules, refl, arith, codes, ◌≡◌}
use Rattle.std.proofs.lemmas.Slice.Eq.{text_from_reads}
use Rattle.gp_json.specs.Slots.{after_phase}
use Rattle.gp_json.proofs.slot.after_phase.Goals as goal

pub returns-in-ranging : goal.returns-in-ranging
unfolding after_phase
returns-in-ranging c =
    let word : c.args.part.now ≡ codes "ranging" = text_from_reads c.args.part.now (codes "ranging") (omega arith) (search rules) in
    rw word refl

pub returns-in-operating : goal.returns-in-operating
unfolding after_phase
returns-in-operating c =
    let word : c.args.part.now ≡ codes "operating" = text_from_reads c.args.part.now (codes "operating") (omega arith) (search rules) in
    rw word refl
