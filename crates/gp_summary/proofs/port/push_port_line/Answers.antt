use Rattle.std.proofs.Common.{◌≡◌, ◌++◌}
use Rattle.gp_machine.specs.State.{rows_of}
use Rattle.gp_summary.specs.Text.{counts_told, port_front}
use Rattle.gp_summary.proofs.Joined.{join}
use Rattle.gp_summary.proofs.port.push_port_line.Goals as goal

pub returns : goal.returns
returns g c =
    let old = c.args.out.now.items in
    let state = c.args.core.now in
    let front : c.push_front.new.out.items ≡ old ++ port_front c.args.form c.args.number (rows_of state) state.common =
    rw (c.rows.ensures, c.common.ensures) at c.in_ok-push_front.ensures in
    join c.push_counts.result old (port_front c.args.form c.args.number (rows_of state) state.common) c.push_front.new.out.items (counts_told c.args.form c.args.counts.now) c.push_counts.new.out.items
    front c.push_counts.ensures
