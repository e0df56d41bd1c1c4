use Rattle.std.proofs.Common.{rules}
use Rattle.std.proofs.lemmas.List.{drop_all}
use Rattle.gp_dump.proofs.HeadLemmas.{ports_all, ports_more}
use Rattle.gp_dump.proofs.head.push_ports.Goals as goal

pub ports-preserved : goal.ports-preserved
ports-preserved c = ports_more c.ports.port c.args.ports.now c.args.out.now.items c.ports.out.items c.push_port_if.new.out.items (search rules) c.ports.invariant (search rules)

pub returns : goal.returns
returns c = ports_all c.ports.port c.args.ports.now c.args.out.now.items c.ports.out.items (drop_all c.ports.port c.args.ports.now (search rules)) c.ports.invariant
