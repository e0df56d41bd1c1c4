use Rattle.gp_port.proofs.port_core.PortCore.step_entry.Goals as goal

pub returns-clause-makes : goal.returns-clause-makes
returns-clause-makes g c = rw c.count-entry-2.ensures.count c.step_into-rest.ensures
