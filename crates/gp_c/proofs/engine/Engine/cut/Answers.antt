use Rattle.gp_c.proofs.engine.Engine.cut.Goals as goal

pub returns-clause-ok : goal.returns-clause-ok
returns-clause-ok g c = rw (← c.self.view_is) (record { piece = c.in-Ok._piece; cuts = c.in-Ok.ensures.ok })
