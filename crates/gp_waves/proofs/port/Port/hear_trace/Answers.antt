use Rattle.std.proofs.Common.{rules}
use Rattle.std.proofs.lemmas.Bool.{ltb_from_iff}
use Rattle.gp_waves.specs.Port.{both}
use Rattle.gp_waves.proofs.PortLemmas.{trace_heard, trace_past}
use Rattle.gp_waves.proofs.port.Port.hear_trace.Goals as goal

pub returns-then-are_past : goal.returns-then-are_past
returns-then-are_past c =
    trace_past c.args.scope.now c.args.time c.args.text.now c.args.is_frame c.args.first.now c.args.second.now (both c.args.self.now c.args.held.now)
    (both c.advance.new.self c.advance.new.held) c.are_past.result c.in_ok-advance.ensures (ltb_from_iff c.are_past.ensures) (search rules)

pub returns : goal.returns
returns c =
    trace_heard c.hear_maybe-2.result c.args.scope.now c.args.time c.args.text.now c.args.is_frame c.args.first.now c.args.second.now
    (both c.args.self.now c.args.held.now) (both c.advance.new.self c.advance.new.held) (both c.tell_frame.new.self c.tell_frame.new.held)
    (both c.tell_alarm.new.self c.tell_alarm.new.held) (both c.hear_maybe.new.self c.hear_maybe.new.held) (both c.hear_maybe-2.new.self c.hear_maybe-2.new.held)
    c.are_past.result c.in_ok-advance.ensures (ltb_from_iff c.are_past.ensures) (search rules) c.in_ok-tell_frame.ensures c.in_ok-tell_alarm.ensures
    c.in_ok-hear_maybe.ensures c.hear_maybe-2.ensures
