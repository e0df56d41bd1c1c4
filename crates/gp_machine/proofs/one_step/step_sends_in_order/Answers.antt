use Rattle.gp_machine.proofs.OwedMessages.{sends_in_order}
use Rattle.gp_machine.proofs.one_step.step_sends_in_order.Goals as goal

pub returns : goal.returns
returns c = sends_in_order
