use Rattle.std.proofs.Common.{◌+◌, ◌*◌, refl, arith, sym}
use Rattle.std.specs.FinSet as set
use Rattle.gp_numbers.specs.Numbers.{AreAllIn, IsLeastOutside}
use Rattle.gp_pools.specs.Pool.{pool_of}
use Rattle.gp_pools.proofs.Barred.{none_free, least_open, none_below}
use Rattle.gp_pools.proofs.number_pool.NumberPool.least_free.Goals as goal

pub returns-in_err-number-clause-none : goal.returns-in_err-number-clause-none
returns-in_err-number-clause-none g c =
    let q = c.self.inside in
    let pool = pool_of g.row.FIRST q.last q.limit q.leased q.settled in
    let all : AreAllIn q.leased (set.union q.settled c.args.barred.now) g.row.FIRST (g.row.FIRST + 64 * g.row.WORDS) = rw (sym c.union-taken.ensures) (c.in_err-number.ensures.none refl) in
    rw (c.from_residual.ensures, ← c.self.view_is)
    (λ number free clear room. none_free pool c.args.barred.now (g.row.FIRST + 64 * g.row.WORDS) c.self.invariant.held all number free clear)

pub returns-then-number-self-clause-none : goal.returns-then-number-self-clause-none
returns-then-number-self-clause-none g c =
    let q = c.self.inside in
    let pool = pool_of g.row.FIRST q.last q.limit q.leased q.settled in
    let least : IsLeastOutside q.leased (set.union q.settled c.args.barred.now) g.row.FIRST (g.row.FIRST + 64 * g.row.WORDS) c.in_ok-number.number = rw (sym c.union-taken.ensures) c.in_ok-number.ensures.least in
    rw (← c.self.view_is)
    (λ number free clear room. none_below pool c.args.barred.now (g.row.FIRST + 64 * g.row.WORDS) c.in_ok-number.number (omega arith) least number free clear)

pub returns-clause-free : goal.returns-clause-free
returns-clause-free g c =
    let q = c.self.inside in
    let pool = pool_of g.row.FIRST q.last q.limit q.leased q.settled in
    let least : IsLeastOutside q.leased (set.union q.settled c.args.barred.now) g.row.FIRST (g.row.FIRST + 64 * g.row.WORDS) c.in_ok-number.number = rw (sym c.union-taken.ensures) c.in_ok-number.ensures.least in
    rw (← c.self.view_is) (least_open pool c.args.barred.now (g.row.FIRST + 64 * g.row.WORDS) c.in_ok-number.number (omega arith) least).0

pub returns-clause-unbarred : goal.returns-clause-unbarred
returns-clause-unbarred g c =
    let q = c.self.inside in
    let pool = pool_of g.row.FIRST q.last q.limit q.leased q.settled in
    let least : IsLeastOutside q.leased (set.union q.settled c.args.barred.now) g.row.FIRST (g.row.FIRST + 64 * g.row.WORDS) c.in_ok-number.number = rw (sym c.union-taken.ensures) c.in_ok-number.ensures.least in
    (least_open pool c.args.barred.now (g.row.FIRST + 64 * g.row.WORDS) c.in_ok-number.number (omega arith) least).1
