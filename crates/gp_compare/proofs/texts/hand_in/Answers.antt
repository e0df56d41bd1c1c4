use Rattle.std.proofs.Common.{rules}
use Rattle.std.proofs.lemmas.List.{take_rest}
use Rattle.gp_compare.proofs.TextLemmas.{handed_more}
use Rattle.gp_compare.proofs.texts.hand_in.Goals as goal

pub writes-preserved : goal.writes-preserved
writes-preserved g c =
    let takes = rw (take_rest c.args.text.now c.writes.at) at c.in-Some.ensures.2 in record {
      within = search rules;
      taken = handed_more _ _ _ _ _ _ c.writes.invariant.taken takes;
    }
