use Rattle.std.proofs.Common.{refl}
use Rattle.gp_fibre.proofs.LostLemmas.{placed_at}
use Rattle.gp_fibre.proofs.lost_numbers.is_place.Goals as goal

pub returns : goal.returns
returns c none = placed_at c.args.ordered.now c.args.number c.args.place c.requires (c.if-not-are_less.ensures refl) (c.none_is_less.ensures none)
