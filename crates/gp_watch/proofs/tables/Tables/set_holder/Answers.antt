use Rattle.std.proofs.Common.{◌<◌, length, arith, refl}
use Rattle.gp_watch.proofs.Places.{map_of-put}
use Rattle.gp_watch.proofs.Numbers.{numbers_are}
use Rattle.gp_watch.proofs.tables.Tables.set_holder.Goals as goal

pub returns : goal.returns
returns c =
    let q = c.self.inside in
    let within : c.args.onu < length q.holders.items = omega (arith, c.self.invariant.0, c.ranges.onu.fits) in
    rw (c.from.ensures, ← c.self.view_is) (numbers_are _ _ _ _ _ _ _ _ _ _ (map_of-put q.holders.items c.args.onu c.args.serial.now within) refl refl refl refl)
