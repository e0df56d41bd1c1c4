use Rattle.std.proofs.Common.{◌≡◌, ◌++◌, OnOk, ap, ◌∙◌, subst}
use Rattle.std.specs.FinMap.{entries}
use Rattle.std.specs.List.{flat_map}
use Rattle.gp_tally.specs.declared.counts.PortCounts.{PortCounts}
use Rattle.gp_tally.specs.Tally.{Units}
use Rattle.gp_summary.specs.Text.{port_line, port_lines, unit_line}
use Rattle.gp_summary.proofs.Joined.{join}
use Rattle.gp_summary.proofs.lines.push_port.Goals as goal

pub returns : goal.returns
unfolding port_lines
returns g c =
    let state = c.args.core.now in
    let line = c.in_ok-push_port_line.ensures ∙ ap (λ (n : PortCounts). c.args.out.now.items ++ port_line c.args.form c.args.number state n) c.counts.ensures in
    let units = subst (λ (m : Units). OnOk c.push_units.result (c.push_units.new.out.items ≡ c.push_port_line.new.out.items ++ flat_map (unit_line c.args.form c.args.number state) (entries m))) c.units.ensures c.push_units.ensures in
    join c.push_units.result c.args.out.now.items (port_line c.args.form c.args.number state c.args.tally.now.counts) c.push_port_line.new.out.items
    (flat_map (unit_line c.args.form c.args.number state) (entries c.args.tally.now.units)) c.push_units.new.out.items line units
