use Rattle.gp_fibre.proofs.LostLemmas.{put_in_order}
use Rattle.std.proofs.lemmas.List.Sorted.{IsPermutation-trans}
use Rattle.gp_fibre.proofs.lost_numbers.in_order.Goals as goal

pub returns : goal.returns
returns c =
    let same = IsPermutation-trans _ _ _ c.from.ensures.1 c.into_sorted_vec.ensures.permutation in
    put_in_order c.args.given.items c.into_sorted_vec.result.items same (c.into_sorted_vec.ensures.sorted c.from.ensures.2)
