use Rattle.std.proofs.Common.{ℕ, Option, subst}
use Rattle.gp_fibre.specs.UnitStore.{IsNextOf}
use Rattle.gp_fibre.proofs.unit_store.UnitStore.next_meant.Goals as goal

pub returns-in-Some-clause-next : goal.returns-in-Some-clause-next
returns-in-Some-clause-next c =
    subst (λ (onu_id : Option ℕ). IsNextOf c.args.self.now.units onu_id c.args.from c.next_asked.result) c.in-Some.ensures c.next_asked.ensures.next

pub returns-in-None-clause-next : goal.returns-in-None-clause-next
returns-in-None-clause-next c =
    subst (λ (onu_id : Option ℕ). IsNextOf c.args.self.now.units onu_id c.args.from c.place_from.result) c.in-None.ensures c.place_from.ensures.next
