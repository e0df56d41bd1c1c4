use Rattle.std.proofs.Common.{◌<◌, length, arith, refl}
use Rattle.gp_watch.proofs.Places.{map_of-empty}
use Rattle.gp_watch.proofs.Sets.{removed_is_kept}
use Rattle.gp_watch.proofs.Numbers.{numbers_are}
use Rattle.gp_watch.proofs.tables.Tables.give_up.Goals as goal

pub returns : goal.returns
returns c =
    let q = c.self.inside in
    let n = c.args.onu in
    let held : n < length q.holders.items = omega (arith, c.self.invariant.0, c.ranges.onu.fits) in
    let told : n < length q.delays.items = omega (arith, c.self.invariant.1, c.ranges.onu.fits) in
    let heard : n < length q.answers.items = omega (arith, c.self.invariant.2, c.ranges.onu.fits) in
    rw (c.from-place.ensures, c.forget.ensures, c.give_up.ensures, c.remove.ensures, c.from.ensures, ← c.self.view_is)
    (numbers_are _ _ _ _ _ _ _ _ _ _ (map_of-empty q.holders.items n held) refl (map_of-empty q.delays.items n told) (map_of-empty q.answers.items n heard) (removed_is_kept q.told n))
