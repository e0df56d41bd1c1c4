use Rattle.gp_table.specs.Active.{IsFreeAllocId}
use Rattle.gp_machine.specs.State.{IsFreeAlloc, has_free_alloc}
use Rattle.gp_port.specs.Parts.{state_with}
use Rattle.gp_port.proofs.Tables.{alloc_of_port, alloc_of_table, picked, told}
use Rattle.gp_port.proofs.port_machine.PortMachine.free_alloc.Goals as goal

pub returns-clause-told : goal.returns-clause-told
returns-clause-told c =
    let a = c.self.inside in
    let p = state_with a.config a.units a.common a.wanted a.timer a.window a.owed a.polled in
    let configured = c.self.invariant.configured in
    rw (← c.self.view_is)
    (told (IsFreeAlloc p) (IsFreeAllocId a.units) (has_free_alloc p) c.free_alloc.result (c.tells_free_numbers.ensures.alloc p)
    (alloc_of_port a.config a.units a.common a.wanted a.timer a.window a.owed a.polled configured)
    (alloc_of_table a.config a.units a.common a.wanted a.timer a.window a.owed a.polled configured)
    c.free_alloc.ensures.none c.free_alloc.ensures.free)

pub returns-clause-wished : goal.returns-clause-wished
returns-clause-wished c =
    let a = c.self.inside in
    let p = state_with a.config a.units a.common a.wanted a.timer a.window a.owed a.polled in
    let configured = c.self.invariant.configured in
    rw (← c.self.view_is)
    (picked (IsFreeAlloc p) (IsFreeAllocId a.units) c.free_alloc.result c.args.wished c.args.wished (λ n is free. is)
    (alloc_of_port a.config a.units a.common a.wanted a.timer a.window a.owed a.polled configured)
    c.free_alloc.ensures.wished)
