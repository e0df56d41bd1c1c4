use Rattle.std.proofs.Common.{◌≡◌, ◌<◌, false, None, length, ap, ◌∙◌, arith}
use Rattle.std.specs.FinMap as map
use Rattle.std.proofs.lemmas.List.{get_or_default}
use Rattle.gp_ploam.specs.Serials.{serial_of}
use Rattle.hear_state.specs.declared.index.IndexPlace.{IndexPlace}
use Rattle.hear_state.specs.Index.{IsPlaceOf, IsGapFor, is_full, blank_place, index_of}
use Rattle.hear_state.proofs.Followeds.{full_new, room_new, room_there}
use Rattle.hear_state.proofs.Ranks.{found_none, index_of-insert, index_of-set, rising-insert}
use Rattle.hear_state.proofs.index.Index.put.Goals as goal

pub returns-then-count-ge-MOST_FOLLOWED-clause-fails : goal.returns-then-count-ge-MOST_FOLLOWED-clause-fails
returns-then-count-ge-MOST_FOLLOWED-clause-fails c =
    let places = c.self.inside.places.items in
    let gap : IsGapFor places c.number-rank.result c.in-Err.at = rw c.as_slice.ensures.value at c.in-Err.ensures.absent in
    rw (← c.self.view_is, ← c.number-rank.ensures.serial)
    (full_new places c.number-rank.result c.in-Err.at c.self.invariant c.number-rank.ensures.fits gap
    (omega (arith, c.len-count.ensures, c.self.inside.places.ok.0, c.if-count-ge-MOST_FOLLOWED.true)))

pub returns-in-Err-insert-clause-fails : goal.returns-in-Err-insert-clause-fails
returns-in-Err-insert-clause-fails c =
    let places = c.self.inside.places.items in
    let gap : IsGapFor places c.number-rank.result c.in-Err.at = rw c.as_slice.ensures.value at c.in-Err.ensures.absent in
    let few : length places < 65536 = omega (arith, c.len-count.ensures, c.self.inside.places.ok.0, c.if-count-ge-MOST_FOLLOWED.false) in
    let none : map.get c.args.self.now c.args.serial.now ≡ None =
    rw (← c.self.view_is, ← c.number-rank.ensures.serial) (found_none places c.number-rank.result c.in-Err.at c.number-rank.ensures.fits c.self.invariant gap) in
    let room : is_full c.args.self.now c.args.serial.now ≡ false =
    rw (← c.self.view_is, ← c.number-rank.ensures.serial) (room_new places c.number-rank.result c.in-Err.at c.self.invariant c.number-rank.ensures.fits gap few) in
    rw c.into.ensures (none, room)

pub invariant_of-self-in_default : goal.invariant_of-self-in_default
invariant_of-self-in_default c =
    let places = c.self.inside.places.items in
    let gap : IsGapFor places c.number-rank.result c.in-Err.at = rw c.as_slice.ensures.value at c.in-Err.ensures.absent in
    rw c.in_default.ensures.items (rising-insert places c.number-rank.result c.in-Err.at c.args.followed c.number-rank.ensures.fits c.self.invariant gap)

pub returns-in-Ok-clause-put : goal.returns-in-Ok-clause-put
returns-in-Ok-clause-put c =
    let places = c.self.inside.places.items in
    let at : IsPlaceOf places c.number-rank.result c.in-Ok.at = rw c.as_slice.ensures.value at c.in-Ok.ensures.found in
    let read = c.index_mut.ensures.value ∙ get_or_default places c.in-Ok.at c.index_mut.result.now blank_place at.within in
    let rank = ap (λ (p : IndexPlace). p.rank) read in
    rw (← c.self.view_is, ← c.number-rank.ensures.serial)
    (index_of-set places c.in-Ok.at (record { rank = c.index_mut.result.now.rank; followed = c.args.followed }) at.within rank c.self.invariant
    ∙ ap (λ n. map.insert (index_of places) (serial_of n) c.args.followed) (rank ∙ at.here))

pub returns-in-Ok-clause-room : goal.returns-in-Ok-clause-room
returns-in-Ok-clause-room c =
    let places = c.self.inside.places.items in
    let at : IsPlaceOf places c.number-rank.result c.in-Ok.at = rw c.as_slice.ensures.value at c.in-Ok.ensures.found in
    rw (← c.self.view_is, ← c.number-rank.ensures.serial) (room_there places c.number-rank.result c.in-Ok.at c.self.invariant at)

pub returns-in_default-clause-put : goal.returns-in_default-clause-put
returns-in_default-clause-put c =
    let places = c.self.inside.places.items in
    let gap : IsGapFor places c.number-rank.result c.in-Err.at = rw c.as_slice.ensures.value at c.in-Err.ensures.absent in
    rw (c.in_default.ensures.items, ← c.self.view_is, ← c.number-rank.ensures.serial)
    (index_of-insert places c.number-rank.result c.in-Err.at c.args.followed c.number-rank.ensures.fits c.self.invariant gap)

pub returns-in_default-clause-room : goal.returns-in_default-clause-room
returns-in_default-clause-room c =
    let places = c.self.inside.places.items in
    let gap : IsGapFor places c.number-rank.result c.in-Err.at = rw c.as_slice.ensures.value at c.in-Err.ensures.absent in
    let few : length places < 65536 = omega (arith, c.len-count.ensures, c.self.inside.places.ok.0, c.if-count-ge-MOST_FOLLOWED.false) in
    rw (← c.self.view_is, ← c.number-rank.ensures.serial) (room_new places c.number-rank.result c.in-Err.at c.self.invariant c.number-rank.ensures.fits gap few)
