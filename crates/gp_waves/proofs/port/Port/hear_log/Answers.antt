use Rattle.std.proofs.Common.{rules}
use Rattle.std.proofs.lemmas.Bool.{ltb_from_iff}
use Rattle.gp_waves.specs.Port.{both}
use Rattle.gp_waves.proofs.PortLemmas.{log_heard, log_past}
use Rattle.gp_waves.proofs.port.Port.hear_log.Goals as goal

pub returns-then-are_past : goal.returns-then-are_past
returns-then-are_past c =
    log_past c.args.scope.now c.args.time c.args.said.now (both c.args.self.now c.args.held.now) (both c.advance.new.self c.advance.new.held) c.are_past.result
    c.in_ok-advance.ensures (ltb_from_iff c.are_past.ensures) (search rules)

pub returns : goal.returns
returns c =
    log_heard c.hear.result c.args.scope.now c.args.time c.args.said.now (both c.args.self.now c.args.held.now) (both c.advance.new.self c.advance.new.held)
    (both c.hear.new.self c.hear.new.held) c.are_past.result c.in_ok-advance.ensures (ltb_from_iff c.are_past.ensures) (search rules) c.hear.ensures
