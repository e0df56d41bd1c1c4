use Rattle.std.proofs.Common.{◌≡◌, ◌<◌, ◌+◌, ◌-◌, map, length, get_or, refl, rules, arith}
use Rattle.std.specs.Prelude.{Some, slice_get}
use Rattle.std.proofs.lemmas.Option.{slice_get_read}
use Rattle.gp_accounts.specs.Places.{IsPlaceOf}
use Rattle.gp_accounts.proofs.Standing.{place_below}
use Rattle.gp_accounts.proofs.Reconciles.{place_is}
use Rattle.gp_accounts.proofs.places.place_of.Goals as goal

pub overflow_add-result : goal.overflow_add-result
overflow_add-result g c =
    let r = c.args.receipt.now in
    let within : r.port < length c.args.journals.now = search rules in
    let read = rw c.from-port.ensures at c.index-journals-port.is in
    let is : slice_get c.args.journals.now r.port ≡ Some c.index-journals-port.result = slice_get_read _ _ _ _ refl within read in
    let place : IsPlaceOf (map g.J.Recorded.history c.args.journals.now) r (get_or c.args.starts.now r.port 0 + (r.number - c.first-first.result)) =
    place_is g.J.Recorded.history c.args.journals.now c.args.starts.now r _ c.first-first.result c.index-journals-port.result is c.first-first.ensures c.requires.starts (c.if-not-has_entry.ensures.0 refl) refl in
    rw c.from-port.ensures (omega (arith, place_below _ _ _ place, c.requires.count))

pub returns : goal.returns
returns g c =
    let r = c.args.receipt.now in
    let within : r.port < length c.args.journals.now = search rules in
    let read = rw c.from-port.ensures at c.index-journals-port.is in
    let is : slice_get c.args.journals.now r.port ≡ Some c.index-journals-port.result = slice_get_read _ _ _ _ refl within read in
    rw c.from-port.ensures (place_is g.J.Recorded.history c.args.journals.now c.args.starts.now r _ c.first-first.result c.index-journals-port.result is c.first-first.ensures c.requires.starts (c.if-not-has_entry.ensures.0 refl) refl)
