use Rattle.gp_watch.specs.Heard.{heard_of}
use Rattle.gp_waves.specs.Port.{both, vars_of}
use Rattle.gp_waves.proofs.PortLemmas.{heard_all}
use Rattle.gp_waves.proofs.port.Port.hear.Goals as goal

pub returns : goal.returns
returns c =
    heard_all c.tell_touched.result c.args.scope.now c.args.said.now (heard_of c.heard_in-heard.result) (both c.args.self.now c.args.held.now)
    (both c.tell_said.new.self c.tell_said.new.held) (vars_of c.close_window.new.self) (vars_of c.tell_touched.new.self) c.tell_touched.new.held
    c.heard_in-heard.ensures.heard c.in_ok-tell_said.ensures c.close_window.ensures c.tell_touched.ensures.units c.tell_touched.ensures.same
