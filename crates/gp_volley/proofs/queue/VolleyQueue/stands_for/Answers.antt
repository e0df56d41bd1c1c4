use Rattle.std.proofs.Common.{map, refl, sym, ◌∙◌, arith}
use Rattle.std.proofs.lemmas.Bool.{false≢true}
use Rattle.std.proofs.lemmas.List.{length-map}
use Rattle.gp_volley.specs.Images.{volley_in}
use Rattle.gp_volley.proofs.SameCopies.{copies_differ, copies_same, lengths_differ, one_more, volley_at, volley_read, no_volley}
use Rattle.gp_volley.proofs.queue.VolleyQueue.stands_for.Goals as goal

pub returns-then-len : goal.returns-then-len
returns-then-len c =
    let xs = c.self.inside.volleys.items in
    let ys = map volley_in c.image.inside.volleys.items in
    rw (← c.self.view_is, ← c.image.view_is)
    (λ yes. absurd (false≢true yes), λ same. absurd (lengths_differ xs ys c.self.invariant.0 c.image.invariant.0 (λ e. omega (arith, e, c.len.ensures, c.len-2.ensures, c.if-len.true, c.self.inside.volleys.ok.0, c.image.inside.volleys.ok, length-map c.image.inside.volleys.items volley_in)) same))

pub returns-then-not-is_same : goal.returns-then-not-is_same
returns-then-not-is_same c =
    let xs = c.self.inside.volleys.items in
    let ys = map volley_in c.image.inside.volleys.items in
    rw (← c.self.view_is, ← c.image.view_is) (
      λ yes. absurd (false≢true yes),
      λ same. absurd (copies_differ xs ys c.loop-i.i c.self.invariant.0 c.image.invariant.0 (λ e. false≢true (sym c.if-not-is_same.true ∙ c.is_same.ensures.1 (sym (volley_read c.self.inside.volleys.items c.loop-i.i c.in-Some.volley.now (omega (arith, c.len-i-end.ensures, c.len.ensures, c.len-2.ensures, c.if-len.false, c.loop-i-test.true, c.self.inside.volleys.ok.0, c.image.inside.volleys.ok)) c.in-Some.ensures.lookup ∙ sym c.image_of.ensures) ∙ e ∙ (volley_at c.image.inside.volleys.items c.loop-i.i c.index.result.now (omega (arith, c.len-i-end.ensures, c.loop-i-test.true, c.image.inside.volleys.ok)) c.index.ensures)))) same),
    )

pub loop-i-preserved : goal.loop-i-preserved
loop-i-preserved c =
    let xs = c.self.inside.volleys.items in
    let ys = map volley_in c.image.inside.volleys.items in
    one_more no_volley c.loop-i.i xs ys c.loop-i.invariant ((volley_read c.self.inside.volleys.items c.loop-i.i c.in-Some.volley.now (omega (arith, c.len-i-end.ensures, c.len.ensures, c.len-2.ensures, c.if-len.false, c.loop-i-test.true, c.self.inside.volleys.ok.0, c.image.inside.volleys.ok)) c.in-Some.ensures.lookup ∙ sym c.image_of.ensures) ∙ c.is_same.ensures.0 c.if-not-is_same.false ∙ sym (volley_at c.image.inside.volleys.items c.loop-i.i c.index.result.now (omega (arith, c.len-i-end.ensures, c.loop-i-test.true, c.image.inside.volleys.ok)) c.index.ensures))

pub returns : goal.returns
returns c =
    let xs = c.self.inside.volleys.items in
    let ys = map volley_in c.image.inside.volleys.items in
    rw (← c.self.view_is, ← c.image.view_is)
    (λ yes. copies_same xs ys c.loop-i.i (omega (arith, c.len.ensures, c.len-2.ensures, c.if-len.false, c.self.inside.volleys.ok.0, c.image.inside.volleys.ok, length-map c.image.inside.volleys.items volley_in)) (omega (arith, c.len-i-end.ensures, c.len.ensures, c.len-2.ensures, c.if-len.false, c.loop-i-test.false, c.self.inside.volleys.ok.0, c.image.inside.volleys.ok, length-map c.image.inside.volleys.items volley_in)) c.loop-i.invariant, λ same. refl)
