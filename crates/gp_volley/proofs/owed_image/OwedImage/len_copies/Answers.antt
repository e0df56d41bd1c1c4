use Rattle.std.proofs.Common.{◌≡◌, ℕ, ◌-◌, ◌*◌, ◌<◌, ◌≤◌, ap, length, arith}
use Rattle.gp_volley.proofs.Imaged.{length_imaged, begun_imaged}
use Rattle.gp_volley.proofs.owed_image.OwedImage.len_copies.Goals as goal

pub returns : goal.returns
returns c =
    let some : 0 < length c.self.inside.volleys.items = omega (arith, c.len.ensures, c.if-len-eq0.false, c.self.inside.volleys.ok) in
    let all = length_imaged c.self.inside.volleys.items c.index.result.now some c.index.ensures c.self.invariant.0 in
    let begun = begun_imaged c.self.inside.volleys.items c.index.result.now some c.index.ensures c.self.invariant.0 in
    let times : c.from-2.result * (c.len-2.result - 1) ≡ 3 * (c.len-2.result - 1) = ap (λ (n : ℕ). n * (c.len-2.result - 1)) c.from-2.ensures in
    let seen = ap length c.self.view_is in
    let few = c.self.invariant.1 in
    record {
      len = omega (arith, all, c.from.ensures, times, c.len-2.ensures, c.self.inside.volleys.ok);
      room = omega (arith, begun, few, c.from.ensures, times, c.len-2.ensures, c.self.inside.volleys.ok);
    }
