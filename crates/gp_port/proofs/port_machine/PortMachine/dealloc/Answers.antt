use Rattle.std.proofs.Common.{◌≡◌, ◌≤◌, Bool, true, false, Option, None, Some, refl, sym, ◌∙◌, arith}
use Rattle.std.specs.FinMap.{get}
use Rattle.std.proofs.lemmas.Bool.{false≢true}
use Rattle.gp_unit.specs.Rows.{is_held}
use Rattle.gp_port.proofs.port_machine.PortMachine.dealloc.Goals as goal

held : (o : Option Bool) → is_held o ≡ true → o ≡ Some false
held None h = absurd (false≢true h)
held (Some true) h = absurd (false≢true h)
held (Some false) h = refl

pub owe-requires-clause-proper : goal.owe-requires-clause-proper
owe-requires-clause-proper c =
    let fits = (c.requires.sound.units.each c.args.serial c.args.row c.requires.has).fits in
    let held_it = held (get c.args.row.allocs c.args.alloc) (sym c.holds_alloc.ensures ∙ c.if-not-holds_alloc.false) in
    let most : c.args.alloc ≤ c.args.self.now.config.alloc_last = (fits.ranged c.args.alloc false held_it).1 in
    let last : c.args.self.now.config.alloc_last ≤ 4095 = c.requires.last in
    omega arith
