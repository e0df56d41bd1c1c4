use Rattle.std.proofs.Common.{sym, ◌∙◌}
use Rattle.gp_port.proofs.Units.{asked_by}
use Rattle.gp_port.proofs.port_machine.PortMachine.in_poll.Goals as goal

pub operating-requires-clause-operating : goal.operating-requires-clause-operating
operating-requires-clause-operating c =
    asked_by c.args.self.now c.in-Some.serial c.in-Some.row c.args.onu c.requires.sound (sym c.unit_with.ensures.unit ∙ c.in-Some.is) c.requires.asked
