use Rattle.std.proofs.Common.{rules, ◌<◌, length, slice_set}
use Rattle.gp_chassis.specs.Core.{CoreState, CoreCuts}
use Rattle.gp_chassis.proofs.Cores.{cut_stands, cut_core, cut_joins, cut_world}
use Rattle.gp_chassis.proofs.chassis_core.ChassisCore.cut.Goals as goal

pub invariant_of-self-2 : goal.invariant_of-self-2
invariant_of-self-2 g c =
    let s : CoreState = record { desks = c.self.inside.desks.items; free = c.self.inside.book.free; hands = c.self.inside.hands.items; licences = c.self.inside.book.total } in
    let port : c.args.port < length s.desks = search rules in
    let new : CoreState = record s { desks = slice_set s.desks c.from-port.result c.cut.new.self } in
    let cuts : CoreCuts s new c.args.port c.in-Ok.piece =
    cut_core s c.args.port c.from-port.result c.in-Ok.piece c.index_mut-desk.result.now c.cut.new.self port c.from-port.ensures c.index_mut-desk.ensures.value c.in-Ok.ensures.ok in
    cut_stands s new c.args.port c.in-Ok.piece c.self.invariant cuts

pub returns-clause-ok : goal.returns-clause-ok
returns-clause-ok g c =
    let s : CoreState = record { desks = c.self.inside.desks.items; free = c.self.inside.book.free; hands = c.self.inside.hands.items; licences = c.self.inside.book.total } in
    let port : c.args.port < length s.desks = search rules in
    rw (← c.self.view_is)
    (cut_core s c.args.port c.from-port.result c.in-Ok.piece c.index_mut-desk.result.now c.cut.new.self port c.from-port.ensures c.index_mut-desk.ensures.value c.in-Ok.ensures.ok)

pub returns-clause-joins : goal.returns-clause-joins
returns-clause-joins g c = cut_joins _ _ _ _ (returns-clause-ok g c)

pub returns-clause-world : goal.returns-clause-world
returns-clause-world g c = cut_world _ _ _ _ (returns-clause-ok g c)
