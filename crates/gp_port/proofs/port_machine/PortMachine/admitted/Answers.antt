use Rattle.gp_machine.specs.SearchWindow.{active_response}
use Rattle.gp_port.proofs.Wishes.{active_gives, no_wish}
use Rattle.gp_port.proofs.port_machine.PortMachine.admitted.Goals as goal

pub returns-in-Some-clause-wished : goal.returns-in-Some-clause-wished
returns-in-Some-clause-wished c =
    let p = c.args.self.now in
    let row = c.in-Some.row in
    rw (← c.requires.disabled, c.if-known.false, ← c.requires.row, c.in-Some.is) (no_wish p (active_response p c.args.serial row.onu row.phase) c.args.wished _ (active_gives p c.args.serial row.onu row.phase))
