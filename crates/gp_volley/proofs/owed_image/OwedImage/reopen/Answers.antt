use Rattle.std.proofs.Common.{◌<◌, ◌∷◌, [], ◌++◌, length, map, take, sym, ap, ◌∙◌, arith}
use Rattle.std.proofs.lemmas.List.{length-map}
use Rattle.gp_volley.specs.Images.{volley_in}
use Rattle.gp_volley.proofs.SameCopies.{bounds, further, volley_at}
use Rattle.gp_volley.proofs.owed_image.OwedImage.reopen.Goals as goal

pub resume-requires-clause-some : goal.resume-requires-clause-some
resume-requires-clause-some c =
    let all = map volley_in c.self.inside.volleys.items in
    let within : c.loop-i.i < length all = omega (arith, c.len-i-end.ensures, c.loop-i-test.true, c.self.inside.volleys.ok, length-map c.self.inside.volleys.items volley_in) in
    let there = ap (λ v. v.left) (volley_at c.self.inside.volleys.items c.loop-i.i c.index.result.now (omega (arith, c.len-i-end.ensures, c.loop-i-test.true, c.self.inside.volleys.ok)) c.index.ensures) in
    rw there at (bounds all c.loop-i.i c.self.invariant.0 within).0

pub resume-requires-clause-at_most : goal.resume-requires-clause-at_most
resume-requires-clause-at_most c =
    let all = map volley_in c.self.inside.volleys.items in
    let within : c.loop-i.i < length all = omega (arith, c.len-i-end.ensures, c.loop-i-test.true, c.self.inside.volleys.ok, length-map c.self.inside.volleys.items volley_in) in
    let there = ap (λ v. v.left) (volley_at c.self.inside.volleys.items c.loop-i.i c.index.result.now (omega (arith, c.len-i-end.ensures, c.loop-i-test.true, c.self.inside.volleys.ok)) c.index.ensures) in
    rw there at (bounds all c.loop-i.i c.self.invariant.0 within).1

pub loop-i-preserved : goal.loop-i-preserved
loop-i-preserved c =
    let all = map volley_in c.self.inside.volleys.items in
    let i = c.loop-i.i in
    let within : c.loop-i.i < length all = omega (arith, c.len-i-end.ensures, c.loop-i-test.true, c.self.inside.volleys.ok, length-map c.self.inside.volleys.items volley_in) in
    let there = volley_at c.self.inside.volleys.items i c.index.result.now (omega (arith, c.len-i-end.ensures, c.loop-i-test.true, c.self.inside.volleys.ok)) c.index.ensures in (
      c.push_back_reserved.ensures.items ∙ ap (λ xs. xs ++ c.resume.result ∷ []) c.loop-i.invariant.0 ∙ ap (λ v. take i all ++ v ∷ []) (c.resume.ensures ∙ sym there) ∙ sym (further all i within),
      omega (arith, c.push_back_reserved.ensures.capacity, c.loop-i.invariant.1),
    )
