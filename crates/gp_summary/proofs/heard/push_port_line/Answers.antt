use Rattle.std.proofs.Common.{◌++◌}
use Rattle.std.specs.List.{flat_map}
use Rattle.gp_summary.specs.Heard.{heard_front}
use Rattle.gp_summary.specs.Text.{alarm_told, all_kinds, all_refusals, end_told, events_told, refusal_told}
use Rattle.gp_summary.proofs.Joined.{join, more}
use Rattle.gp_summary.proofs.heard.push_port_line.Goals as goal

pub returns : goal.returns
returns c =
    let old = c.args.out.now.items in
    let form = c.args.form in
    let front = heard_front form c.args.number c.args.units in
    let events = events_told form c.args.counts.now in
    let refusals = flat_map (refusal_told form c.args.counts.now.refusals) all_refusals in
    let alarms = flat_map (alarm_told form c.args.counts.now.alarms) all_kinds in
    let m1 = c.push_port_front.new.out.items in
    let m2 = c.push_events.new.out.items in
    let m3 = c.push_refusals.new.out.items in
    let m4 = c.push_alarms.new.out.items in
    let two = more old front m1 m2 events c.in_ok-push_port_front.ensures c.in_ok-push_events.ensures in
    let three = more old (front ++ events) m2 m3 refusals two c.in_ok-push_refusals.ensures in
    let four = more old ((front ++ events) ++ refusals) m3 m4 alarms three c.in_ok-push_alarms.ensures in
    join c.push_end.result old (((front ++ events) ++ refusals) ++ alarms) m4 (end_told form) c.push_end.new.out.items four c.push_end.ensures
