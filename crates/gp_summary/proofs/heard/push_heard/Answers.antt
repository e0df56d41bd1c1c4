use Rattle.std.proofs.Common.{◌++◌}
use Rattle.std.specs.List.{flat_map}
use Rattle.gp_census.specs.Text.{front_line}
use Rattle.gp_summary.specs.Heard.{census_form}
use Rattle.gp_summary.specs.Text.{alarm_told, all_kinds, end_told, unit_counted, unit_times}
use Rattle.gp_summary.proofs.Joined.{join, more}
use Rattle.gp_summary.proofs.heard.push_heard.Goals as goal

pub returns : goal.returns
returns c =
    let old = c.args.out.now.items in
    let form = c.args.form in
    let known = front_line (census_form form) c.args.number c.args.watch.now (c.args.serial.now, c.args.heard.now) in
    let counted = unit_counted form c.args.unit.now c.args.heard.now.lost in
    let alarms = flat_map (alarm_told form c.args.unit.now.alarms) all_kinds in
    let times = unit_times form c.args.unit.now in
    let m1 = c.push_known.new.out.items in
    let m2 = c.push_counted.new.out.items in
    let m3 = c.push_alarms.new.out.items in
    let m4 = c.push_times.new.out.items in
    let two = more old known m1 m2 counted c.in_ok-push_known.ensures c.in_ok-push_counted.ensures in
    let three = more old (known ++ counted) m2 m3 alarms two c.in_ok-push_alarms.ensures in
    let four = more old ((known ++ counted) ++ alarms) m3 m4 times three c.in_ok-push_times.ensures in
    join c.push_end.result old (((known ++ counted) ++ alarms) ++ times) m4 (end_told form) c.push_end.new.out.items four c.push_end.ensures
