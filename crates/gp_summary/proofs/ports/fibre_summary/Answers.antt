use Rattle.std.proofs.Common.{◌++◌, ℕ, ap, ◌∙◌, rules}
use Rattle.gp_machine.specs.State.{PortState}
use Rattle.gp_summary.specs.Text.{licences_line, port_lines}
use Rattle.gp_summary.proofs.PortLines.{one_port}
use Rattle.gp_summary.proofs.ports.fibre_summary.Goals as goal

pub returns : goal.returns
returns g c =
    let port = c.in_ok-push_port.ensures ∙ ap (λ (s : PortState). c.new-text.result.items ++ port_lines c.args.form 0 s c.tally-item.result) c.port.ensures in
    let free = c.in_ok-push_licences.ensures ∙ ap (λ (n : ℕ). c.push_port.new.out.items ++ licences_line c.args.form n c.args.licences) c.free.ensures in
    one_port c.args.form c.args.counter.now.mask c.args.counter.now.taken c.args.counter.now.ports c.in_ok-tallies.tallies.now c.args.player.now.play.world.fibre.port
    _ c.tally-item.result c.args.player.now.play.world.fibre.free c.args.licences c.new-text.result.items c.push_port.new.out.items c.push_licences.new.out.items
    c.in_ok-tallies.ensures.counted c.in_ok-tallies.ensures.ports (search rules) c.tally-item.is c.new-text.ensures.items port free
