use Rattle.std.proofs.Common.{rules}
use Rattle.gp_dump.proofs.DumpLemmas.{port_near, unit_near}
use Rattle.gp_dump.proofs.dump.Dump.put.Goals as goal

pub push_port_change-requires : goal.push_port_change-requires
push_port_change-requires c = port_near c.args.change.now c.in-Port.number c.in-Port.what (c.declares.ensures.near (search rules)) (search rules)

pub push_unit_change-requires : goal.push_unit_change-requires
push_unit_change-requires c = unit_near c.args.change.now c.in-Unit.number c.in-Unit.lane c.in-Unit.what (c.declares.ensures.near (search rules)) (search rules)
