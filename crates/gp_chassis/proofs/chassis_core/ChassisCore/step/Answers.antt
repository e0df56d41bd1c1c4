use Rattle.std.proofs.Common.{rules, ◌<◌, length}
use Rattle.gp_chassis.proofs.Cores.{served_step, served_in_place}
use Rattle.gp_chassis.proofs.chassis_core.ChassisCore.step.Goals as goal

pub returns-clause-ok : goal.returns-clause-ok
returns-clause-ok g c = served_in_place _ _ _ _ _ _ _ _ (rw c.from-actor.ensures at c.in_ok-number.ensures.ok) c.last_receipt.ensures.port c.last_receipt.ensures.number c.last_receipt.ensures.entry

pub returns-clause-step : goal.returns-clause-step
returns-clause-step g c =
    let actor : c.args.actor < length c.args.self.now.hands = search rules in
    let serves = served_in_place _ _ _ _ _ _ _ _ (rw c.from-actor.ensures at c.in_ok-number.ensures.ok) c.last_receipt.ensures.port c.last_receipt.ensures.number c.last_receipt.ensures.entry in
    served_step _ _ _ _ _ _ actor serves
