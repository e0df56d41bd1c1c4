use Rattle.std.proofs.Common.{ℕ}
use Rattle.std.specs.FinMap.{len}
use Rattle.gp_census.specs.declared.sighting.PortCounts.{PortCounts}
use Rattle.gp_census.specs.Text.{port_object_front, port_object_rest}
use Rattle.gp_census.proofs.PortLines.{two_pieces}
use Rattle.gp_census.proofs.json.push_port.Goals as goal

pub returns : goal.returns
returns c =
    two_pieces (λ (n : ℕ) (p : PortCounts). port_object_front c.args.port n p) port_object_rest c.push_port_rest.result
    c.args.out.now.items c.push_port_front.new.out.items c.push_port_rest.new.out.items
    c.count.result (len c.args.census.now.units) c.port.result c.port-2.result c.args.census.now.port
    c.count.ensures c.port.ensures c.port-2.ensures c.in_ok-push_port_front.ensures c.push_port_rest.ensures
