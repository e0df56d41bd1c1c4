use Rattle.std.proofs.Common.{◌<◌, ap, length, arith, refl}
use Rattle.gp_volley.proofs.Copies.{length-by_first}
use Rattle.gp_volley.proofs.queue.VolleyQueue.len_copies.Goals as goal

pub overflow_mul-result : goal.overflow_mul-result
overflow_mul-result c = omega (arith, c.self.inside.volleys.ok.0, c.self.invariant.1)

pub overflow_add-result : goal.overflow_add-result
overflow_add-result c = omega (arith, c.self.inside.volleys.ok.0, c.self.invariant.1)

pub returns-in-Some : goal.returns-in-Some
returns-in-Some c =
    let size = c.self.inside.volleys.ok.0 in
    let few = c.self.invariant.1 in
    let some : 0 < length c.self.inside.volleys.items = let h = c.in-Some.ensures.variant.0 refl in omega arith in
    let all = length-by_first c.self.inside.volleys.items c.in-Some.volley.now some c.in-Some.ensures.lookup c.self.invariant.0 in
    let seen = ap length c.self.view_is in
    record { len = omega (arith, c.len.ensures, c.left.ensures.left); room = omega (arith, c.len.ensures, c.left.ensures.at_most) }
