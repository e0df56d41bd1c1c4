use Rattle.std.proofs.Common.{refl}
use Rattle.gp_pools.specs.Pool.{IsFree}
use Rattle.gp_table.specs.Active.{IsFreeAllocId}
use Rattle.gp_table.proofs.Together.{alloc_is_free, free_alloc_is, none_of, some_of}
use Rattle.gp_table.proofs.active_units.ActiveUnits.free_alloc.Goals as goal

pub returns-then-is_free-clause-free : goal.returns-then-is_free-clause-free
returns-then-is_free-clause-free c =
    let q = c.self.inside in
    free_alloc_is q.table.rows q.onus q.allocs c.self.invariant q.table c.args.self.now refl c.self.view_is c.in-Some.alloc (c.is_free.ensures.free.0 c.if-is_free.true)

pub returns-clause-none : goal.returns-clause-none
returns-clause-none c =
    let q = c.self.inside in
    none_of (IsFreeAllocId c.args.self.now) (IsFree q.allocs) c.free_one.result (alloc_is_free q.table.rows q.onus q.allocs c.self.invariant q.table c.args.self.now refl c.self.view_is) c.free_one.ensures.none

pub returns-clause-free : goal.returns-clause-free
returns-clause-free c =
    let q = c.self.inside in
    some_of (IsFree q.allocs) (IsFreeAllocId c.args.self.now) c.free_one.result (free_alloc_is q.table.rows q.onus q.allocs c.self.invariant q.table c.args.self.now refl c.self.view_is) c.free_one.ensures.free
