use Rattle.gp_port.proofs.Units.{nobody}
use Rattle.gp_port.proofs.image.PortImage.unit_with.Goals as goal

pub returns-in-None-clause-unit : goal.returns-in-None-clause-unit
returns-in-None-clause-unit c = nobody c.args.self.now.rows c.args.onu (rw (← c.self.view_is) (rw c.in-None.is at c.holder.ensures.none))

pub returns-in-None-clause-none : goal.returns-in-None-clause-none
returns-in-None-clause-none c = rw (← c.self.view_is) (λ serial row has same. (rw c.in-None.is at c.holder.ensures.none) serial (row, has, same))
