use Rattle.std.proofs.Common.{rules}
use Rattle.std.proofs.Math.Seq.{take-add}
use Rattle.std.proofs.lemmas.List.{take_rest}
use Rattle.std.proofs.KnownBytes.{Appends-trans}
use Rattle.gp_with_units.proofs.behind.write_all.Goals as goal

pub writes-preserved : goal.writes-preserved
writes-preserved g c =
    let taken = rw (take_rest c.args.text.now c.writes.at) at c.in-Ok.ensures.bytes in record {
      within = search rules;
      written = rw (take-add c.writes.at c.in-Ok.count c.args.text.now) (Appends-trans _ _ _ _ _ c.writes.invariant.written taken);
    }
