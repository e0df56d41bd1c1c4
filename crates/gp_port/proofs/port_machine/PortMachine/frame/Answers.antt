use Rattle.gp_port.proofs.Stepping.{frame_step_with}
use Rattle.gp_port.proofs.port_machine.PortMachine.frame.Goals as goal

pub returns : goal.returns
returns c =
    rw c.write.ensures
    (frame_step_with c.args.purse c.args.self.now c.candidates-ranging.result.0 c.candidates-ranging.result.1 _ c.requires.sound c.candidates-ranging.ensures c.frame_by-purse.ensures.0 c.frame_by-purse.ensures.1)
