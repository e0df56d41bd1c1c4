use Rattle.gp_table.specs.Active.{IsFreeOnuId}
use Rattle.gp_machine.specs.State.{IsFree, has_free_onu}
use Rattle.gp_port.specs.Parts.{state_with}
use Rattle.gp_port.proofs.Tables.{onu_of_port, onu_of_table, picked, told}
use Rattle.gp_port.proofs.port_machine.PortMachine.free_onu.Goals as goal

pub returns-clause-told : goal.returns-clause-told
returns-clause-told c =
    let a = c.self.inside in
    let p = state_with a.config a.units a.common a.wanted a.timer a.window a.owed a.polled in
    let configured = c.self.invariant.configured in
    rw (← c.self.view_is)
    (told (IsFree p) (IsFreeOnuId a.units) (has_free_onu p) c.free_onu.result (c.tells_free_numbers.ensures.onu p)
    (onu_of_port a.config a.units a.common a.wanted a.timer a.window a.owed a.polled configured)
    (onu_of_table a.config a.units a.common a.wanted a.timer a.window a.owed a.polled configured)
    c.free_onu.ensures.none c.free_onu.ensures.free)

pub returns-clause-wished : goal.returns-clause-wished
returns-clause-wished c =
    let a = c.self.inside in
    let p = state_with a.config a.units a.common a.wanted a.timer a.window a.owed a.polled in
    let configured = c.self.invariant.configured in
    rw (← c.self.view_is)
    (picked (IsFree p) (IsFreeOnuId a.units) c.free_onu.result c.octet_of.result c.args.wished (λ n is free. c.octet_of.ensures n is free.low)
    (onu_of_port a.config a.units a.common a.wanted a.timer a.window a.owed a.polled configured)
    c.free_onu.ensures.wished)
