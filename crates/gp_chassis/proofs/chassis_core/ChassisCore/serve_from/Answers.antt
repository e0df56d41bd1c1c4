use Rattle.std.proofs.Common.{sym, subst, ◌≡◌, ◌∙◌, ◌<◌, length, slice_set}
use Rattle.gp_chassis.specs.declared.fault.ApplyFault.TheVariants.{JournalFull}
use Rattle.gp_chassis.specs.Core.{CoreState, CoreServesInPlace, Stands}
use Rattle.gp_chassis.proofs.Cores.{in_place_core, served_stands, refused_core, full_core}
use Rattle.gp_chassis.proofs.chassis_core.ChassisCore.serve_from.Goals as goal

pub invariant_of-self : goal.invariant_of-self
invariant_of-self g c =
    let s : CoreState = record { desks = c.self.inside.desks.items; free = c.self.inside.book.free; hands = c.self.inside.hands.items; licences = c.self.inside.book.total } in
    let port : c.args.port < length s.desks = rw (← c.self.view_is) at c.requires.port in
    let actor : c.args.actor < length s.hands = rw (← c.self.view_is) at c.requires.actor in
    let new : CoreState = record s { desks = slice_set s.desks c.from.result c.serve_in_place.new.self; hands = c.put.new.hands.items } in
    let kept : CoreServesInPlace s new c.args.actor c.args.port c.args.event c.args.wished c.in-Ok.number =
    in_place_core s c.args.actor c.args.port c.from.result c.args.event c.args.wished c.in-Ok.number c.index_mut-desk.result.now c.serve_in_place.new.self c.in-Ok.rest c.pull-purse.result c.pull-purse.new.hands.items c.put.new.hands.items
    port c.from.ensures c.index_mut-desk.ensures.value c.pull-purse.ensures.pulled c.pull-purse.ensures.hands c.put.ensures c.in-Ok.ensures.ok in
    served_stands s new c.args.actor c.args.port c.args.event kept.receipt actor c.self.invariant kept.serves

pub returns-in-Ok-clause-ok : goal.returns-in-Ok-clause-ok
returns-in-Ok-clause-ok g c =
    let s : CoreState = record { desks = c.self.inside.desks.items; free = c.self.inside.book.free; hands = c.self.inside.hands.items; licences = c.self.inside.book.total } in
    let port : c.args.port < length s.desks = rw (← c.self.view_is) at c.requires.port in
    rw (← c.self.view_is)
    (in_place_core s c.args.actor c.args.port c.from.result c.args.event c.args.wished c.in-Ok.number c.index_mut-desk.result.now c.serve_in_place.new.self c.in-Ok.rest c.pull-purse.result c.pull-purse.new.hands.items c.put.new.hands.items
    port c.from.ensures c.index_mut-desk.ensures.value c.pull-purse.ensures.pulled c.pull-purse.ensures.hands c.put.ensures c.in-Ok.ensures.ok)

pub invariant_of-self-in-Err : goal.invariant_of-self-in-Err
invariant_of-self-in-Err g c =
    let s : CoreState = record { desks = c.self.inside.desks.items; free = c.self.inside.book.free; hands = c.self.inside.hands.items; licences = c.self.inside.book.total } in
    let kept : record s { desks = slice_set s.desks c.from.result c.serve_in_place.new.self; hands = c.put-in-Err.new.hands.items } ≡ s =
    refused_core s c.args.actor c.from.result c.index_mut-desk.result.now c.serve_in_place.new.self c.in-Err.purse c.pull-purse.result c.pull-purse.new.hands.items c.put-in-Err.new.hands.items
    c.index_mut-desk.ensures.value c.pull-purse.ensures.pulled c.pull-purse.ensures.hands c.put-in-Err.ensures c.in-Err.ensures.err.0 c.in-Err.ensures.err.1 in
    subst Stands (sym kept) c.self.invariant

pub returns-in-Err-clause-err : goal.returns-in-Err-clause-err
returns-in-Err-clause-err g c =
    let s : CoreState = record { desks = c.self.inside.desks.items; free = c.self.inside.book.free; hands = c.self.inside.hands.items; licences = c.self.inside.book.total } in
    let kept : record s { desks = slice_set s.desks c.from.result c.serve_in_place.new.self; hands = c.put-in-Err.new.hands.items } ≡ s =
    refused_core s c.args.actor c.from.result c.index_mut-desk.result.now c.serve_in_place.new.self c.in-Err.purse c.pull-purse.result c.pull-purse.new.hands.items c.put-in-Err.new.hands.items
    c.index_mut-desk.ensures.value c.pull-purse.ensures.pulled c.pull-purse.ensures.hands c.put-in-Err.ensures c.in-Err.ensures.err.0 c.in-Err.ensures.err.1 in
    kept ∙ c.self.view_is

pub returns-in-Err-clause-full : goal.returns-in-Err-clause-full
returns-in-Err-clause-full g c =
    let s : CoreState = record { desks = c.self.inside.desks.items; free = c.self.inside.book.free; hands = c.self.inside.hands.items; licences = c.self.inside.book.total } in
    let port : c.args.port < length s.desks = rw (← c.self.view_is) at c.requires.port in
    let full = full_core s c.args.port c.from.result c.index_mut-desk.result.now (c.in-Err.fault ≡ JournalFull) port c.from.ensures c.index_mut-desk.ensures.value c.in-Err.ensures.full in
    rw (← c.self.view_is) ((λ e. full.0 (c.fault_of.ensures.full.0 e), λ f. c.fault_of.ensures.full.1 (full.1 f)))
