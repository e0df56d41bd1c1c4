use Rattle.std.proofs.Common.{rules, ◌≤◌, ◌+◌, length, refl, sym, ap, subst, arith}
use Rattle.gp_chassis.specs.Desk.{DeskState, DeskStands, HasRoom}
use Rattle.gp_chassis.proofs.Desks.{stepped_desk, desk_recorded, one_more}
use Rattle.gp_chassis.proofs.desk.PortDesk.serve_in_place.Goals as goal

pub invariant_of-self-2 : goal.invariant_of-self-2
invariant_of-self-2 g c =
    let d : DeskState = record { limit = c.self.inside.limit; first = c.self.inside.journal.first; base = c.self.inside.journal.base; entries = c.self.inside.journal.entries; state = c.self.inside.core } in
    let r = c.record-rest.ensures.records in
    let next = c.record-rest.new.core in
    let made = desk_recorded d r.entry next _ _ _ _ _ _ c.reserve_one.ensures.first c.record-rest.ensures.first c.reserve_one.ensures.base c.record-rest.ensures.base c.reserve_one.ensures.entries r.after_is in
    let room : HasRoom c.args.self.now = search (rules, c.if-not-has_room.ensures) in
    let kept : length d.entries + 1 ≤ d.limit = let r = rw (← c.self.view_is) at room.kept in omega (arith, r) in
    let more = one_more d r.entry next in
    let count = ap (λ (x : DeskState). length x.entries) made in (
      subst DeskStands (sym made) (stepped_desk d r.entry next c.self.invariant.0 r.step r.proper),
      omega (arith, count, more, kept),
      c.self.invariant.2,
    )

pub returns-clause-ok : goal.returns-clause-ok
returns-clause-ok g c =
    let d : DeskState = record { limit = c.self.inside.limit; first = c.self.inside.journal.first; base = c.self.inside.journal.base; entries = c.self.inside.journal.entries; state = c.self.inside.core } in
    let r = c.record-rest.ensures.records in
    let next = c.record-rest.new.core in
    let made = desk_recorded d r.entry next _ _ _ _ _ _ c.reserve_one.ensures.first c.record-rest.ensures.first c.reserve_one.ensures.base c.record-rest.ensures.base c.reserve_one.ensures.entries r.after_is in
    let room : HasRoom c.args.self.now = search (rules, c.if-not-has_room.ensures) in
    rw (← c.self.view_is) (record {
      entry = r.entry;
      serves = λ port. record {
        room = rw c.self.view_is room;
        step = r.step;
        sound = r.sound;
        proper = r.proper;
        purse_in = r.purse_in;
        event_is = r.event_is;
        rest_is = sym r.purse_out;
        port_is = refl;
        number = cc;
        desk = made;
        stands = (invariant_of-self-2 g c).0;
      };
      grants = r.grants;
    })
