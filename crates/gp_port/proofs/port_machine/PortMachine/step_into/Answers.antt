use Rattle.gp_port.specs.Numbers.{number_handed_out}
use Rattle.gp_port.proofs.Stepping.{command_step}
use Rattle.gp_port.proofs.Wishes.{command_wish, frame_wish}
use Rattle.gp_port.proofs.port_machine.PortMachine.step_into.Goals as goal

pub returns-in-Command-clause-step : goal.returns-in-Command-clause-step
returns-in-Command-clause-step c =
    rw c.in-Command.is
    (command_step c.args.purse c.args.self.now c.in-Command.command _ (number_handed_out c.command-given.result.0.reply) c.command-given.ensures.outcome.0 c.command-given.ensures.outcome.1)

pub returns-in-Frame-clause-wished : goal.returns-in-Frame-clause-wished
returns-in-Frame-clause-wished c =
    rw c.in-Frame.is (frame_wish c.one_outcome.ensures.outcome c.args.purse c.args.self.now c.args.wished _ c.frame.ensures)

pub returns-in-Burst-clause-wished : goal.returns-in-Burst-clause-wished
returns-in-Burst-clause-wished c = rw c.in-Burst.is c.burst.ensures.wished

pub returns-in-Command-clause-wished : goal.returns-in-Command-clause-wished
returns-in-Command-clause-wished c =
    rw c.in-Command.is (command_wish c.args.purse c.args.self.now c.in-Command.command c.args.wished _ (number_handed_out c.command-given.result.0.reply) c.command-given.ensures.outcome.1 c.command-given.ensures.wished)
