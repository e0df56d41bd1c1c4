use Rattle.std.proofs.Common.{Some, sym, ap, ◌∙◌, arith}
use Rattle.gp_pools.specs.Slots.{filled}
use Rattle.gp_pools.proofs.AllocPlaces.{Entry, found_flag, found_none}
use Rattle.gp_pools.proofs.Slots.{entry_at, read_at}
use Rattle.gp_pools.proofs.allocs.Allocs.get.Goals as goal

pub returns-in_default : goal.returns-in_default
returns-in_default c =
    rw (← c.self.view_is)
    (sym (found_none (filled c.self.inside.slots) c.args.alloc _ c.self.invariant.rising c.in_default.ensures.absent))

pub returns : goal.returns
returns c =
    let here = entry_at c.self.inside.slots c.self.invariant c.in-Ok.place (c.in_ok-leaving.field-0-0, c.in_ok-leaving.leaving) (read_at c.self.inside.slots c.self.invariant c.in-Ok.place _ _ (let at = c.in-Ok.ensures.found in let within = at.within in let most = c.self.invariant.few in omega arith) c.get.ensures ∙ c.in_ok-leaving.was) in
    rw (← c.self.view_is)
    (sym (found_flag (filled c.self.inside.slots) c.args.alloc c.in-Ok.place c.self.invariant.rising c.in-Ok.ensures.found ∙ ap (λ (e : Entry). Some e.1) here.1))
