use Rattle.gp_ploam.specs.Mask.{mask_value}
use Rattle.gp_port.specs.Answers.{number_given}
use Rattle.gp_port.proofs.Stepping.{burst_step, hears}
use Rattle.gp_port.proofs.Wishes.{burst_wish}
use Rattle.gp_port.proofs.port_machine.PortMachine.burst.Goals as goal

pub returns-clause-step : goal.returns-clause-step
returns-clause-step c = rw c.write.ensures
    (burst_step c.args.purse c.args.self.now c.args.at c.args.bytes.now c.ok-heard.result _ (number_given c.receive-purse.result.0)
    (hears (mask_value c.args.self.now.config.mask) c.args.bytes.now c.decode_up.result c.ok-heard.result c.ok-heard.ensures.value c.told-bytes (rw (← c.self.view_is) c.decode_up.ensures.read) (λ e. c.decode_up.ensures.length.0 e) (λ e. rw (← c.self.view_is) (c.decode_up.ensures.crc.0 e).1))
    c.receive-purse.ensures.outcome.0 c.receive-purse.ensures.outcome.1)

pub returns-clause-wished : goal.returns-clause-wished
returns-clause-wished c = rw c.write.ensures
    (burst_wish c.one_outcome.ensures.hears c.args.purse c.args.self.now c.args.at c.args.bytes.now c.ok-heard.result c.args.wished _ (number_given c.receive-purse.result.0)
    (hears (mask_value c.args.self.now.config.mask) c.args.bytes.now c.decode_up.result c.ok-heard.result c.ok-heard.ensures.value c.told-bytes (rw (← c.self.view_is) c.decode_up.ensures.read) (λ e. c.decode_up.ensures.length.0 e) (λ e. rw (← c.self.view_is) (c.decode_up.ensures.crc.0 e).1))
    c.receive-purse.ensures.outcome.1 c.receive-purse.ensures.wished)
