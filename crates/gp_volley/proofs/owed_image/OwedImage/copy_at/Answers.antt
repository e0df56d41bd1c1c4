use Rattle.std.proofs.Common.{◌≡◌, ℕ, ◌+◌, ◌-◌, ◌/◌, ◌<◌, ◌≤◌, Some, refl, sym, ap, ◌∙◌, length, arith}
use Rattle.std.specs.Option.{option_map}
use Rattle.std.specs.List.{slice_get}
use Rattle.std.proofs.lemmas.Option.{slice_get_past, slice_get_read}
use Rattle.gp_volley.specs.declared.owed_image.VolleyImage.{VolleyImage}
use Rattle.gp_volley.proofs.Imaged.{first_imaged, later_imaged}
use Rattle.gp_volley.proofs.owed_image.OwedImage.copy_at.Goals as goal

pub returns-then-i-left : goal.returns-then-i-left
returns-then-i-left c =
    let some : 0 < length c.self.inside.volleys.items = omega (arith, c.len.ensures, c.if-len-eq0.false, c.self.inside.volleys.ok) in
    rw (← c.self.view_is) (sym (first_imaged c.self.inside.volleys.items c.index-first.result.now some c.index-first.ensures c.args.i (omega (arith, c.from-left.ensures, c.if-i-left.true))))

pub returns-then-at-len : goal.returns-then-at-len
returns-then-at-len c =
    let items = c.self.inside.volleys.items in
    let first = c.index-first.result.now in
    let some : 0 < length items = omega (arith, c.len.ensures, c.if-len-eq0.false, c.self.inside.volleys.ok) in
    let place : 1 + (c.args.i - c.from-left.result) / c.from.result ≡ 1 + (c.args.i - first.left) / 3 =
    ap (λ (n : ℕ). 1 + (c.args.i - n) / c.from.result) c.from-left.ensures ∙ ap (λ (n : ℕ). 1 + (c.args.i - first.left) / n) c.from.ensures in
    let there = later_imaged items first some c.index-first.ensures c.self.invariant.0 c.args.i (omega (arith, c.from-left.ensures, c.if-i-left.false)) in
    let past : length items ≤ 1 + (c.args.i - first.left) / 3 = omega (arith, place, c.if-at-len.true, c.len-2.ensures, c.self.inside.volleys.ok) in
    rw (← c.self.view_is) (sym (there ∙ ap (option_map (λ (x : VolleyImage). x.message)) (slice_get_past items (1 + (c.args.i - first.left) / 3) past)))

pub returns : goal.returns
returns c =
    let items = c.self.inside.volleys.items in
    let first = c.index-first.result.now in
    let some : 0 < length items = omega (arith, c.len.ensures, c.if-len-eq0.false, c.self.inside.volleys.ok) in
    let place : 1 + (c.args.i - c.from-left.result) / c.from.result ≡ 1 + (c.args.i - first.left) / 3 =
    ap (λ (n : ℕ). 1 + (c.args.i - n) / c.from.result) c.from-left.ensures ∙ ap (λ (n : ℕ). 1 + (c.args.i - first.left) / n) c.from.ensures in
    let there = later_imaged items first some c.index-first.ensures c.self.invariant.0 c.args.i (omega (arith, c.from-left.ensures, c.if-i-left.false)) in
    let within : 1 + (c.args.i - c.from-left.result) / c.from.result < length items = omega (arith, c.if-at-len.false, c.len-2.ensures, c.self.inside.volleys.ok) in
    let read = slice_get_read items (length items) (1 + (c.args.i - c.from-left.result) / c.from.result) c.index.result.now refl within c.index.ensures in
    rw (← c.self.view_is)
    (sym (there ∙ ap (λ (n : ℕ). option_map (λ (x : VolleyImage). x.message) (slice_get items n)) (sym place) ∙ ap (option_map (λ (x : VolleyImage). x.message)) read))
