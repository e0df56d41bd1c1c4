use Rattle.gp_drive.proofs.shown.put_shown.Goals as goal

pub returns-in-ShowUnit : goal.returns-in-ShowUnit
returns-in-ShowUnit g c = rw c.in-ShowUnit.is (rw c.unit_status.ensures at c.put_unit_if.ensures)

pub returns-in-Light : goal.returns-in-Light
returns-in-Light g c = rw c.in-Light.is c.put_light_if.ensures
