use Rattle.gp_summary.proofs.PortLines.{heard_next}
use Rattle.gp_summary.proofs.heard.push_ports.Goals as goal

pub ports-preserved : goal.ports-preserved
ports-preserved c =
    heard_next c.args.form c.ports.port c.args.listener.now.ports c.args.tallies.now _ _ c.args.out.now.items c.ports.out.items c.push_listened.new.out.items
    c.ports-test.true c.index-tallies-port.is c.ports.invariant c.in_ok-push_listened.ensures
