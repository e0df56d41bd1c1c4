use Rattle.std.proofs.Common.{◌<◌, length, sym, arith}
use Rattle.gp_audit.proofs.PortsLemmas.{set_traced}
use Rattle.gp_audit.proofs.ports.Ports.listen_trace.Goals as goal

pub returns-clause-noted : goal.returns-clause-noted
returns-clause-noted c =
    let within : c.args.port < length c.self.inside.ports.items = omega (arith, c.self.invariant, c.requires) in
    set_traced c.listen_trace.result c.args.options.now c.self.inside.ports.items c.args.self.now c.from.result c.args.port c.args.is_frame c.args.first.now c.args.second.now
    c.index_mut-port.result.now c.listen_trace.new.self (sym c.self.view_is) c.from.ensures within c.index_mut-port.ensures.value c.listen_trace.ensures.noted
