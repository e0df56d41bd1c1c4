use Rattle.gp_chassis.proofs.Desks.{in_place_some, in_place_serves, in_place_grants}
use Rattle.gp_chassis.proofs.desk.PortDesk.serve_wishing.Goals as goal

pub last_receipt-requires : goal.last_receipt-requires
last_receipt-requires g c = in_place_some _ _ _ _ _ _ _ c.in-Ok.ensures.ok

pub returns-in-Ok-clause-ok : goal.returns-in-Ok-clause-ok
returns-in-Ok-clause-ok g c = in_place_serves _ _ _ _ _ _ _ _ _ c.in-Ok.ensures.ok c.last_receipt.ensures.port c.last_receipt.ensures.number c.last_receipt.ensures.entry

pub returns-in-Ok-clause-wished : goal.returns-in-Ok-clause-wished
returns-in-Ok-clause-wished g c = in_place_grants _ _ _ _ _ _ _ _ c.in-Ok.ensures.ok c.last_receipt.ensures.entry
