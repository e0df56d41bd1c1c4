use Rattle.std.proofs.Common.{arith, ap, ◌∙◌, ◌∷◌, [], ◌++◌, length-append}
use Rattle.gp_volley.specs.Volley.{volley_of}
use Rattle.gp_volley.specs.Queue.{copies_of}
use Rattle.gp_volley.proofs.Copies.{few_volleys, in_order-push, copies-push}
use Rattle.gp_volley.proofs.queue.VolleyQueue.owe.Goals as goal

pub push_back_reserved-requires : goal.push_back_reserved-requires
push_back_reserved-requires c =
    let few = few_volleys c.self.inside.volleys.items c.self.invariant.0 (rw (← c.self.view_is) at c.requires) in
    omega (arith, few, c.self.inside.volleys.ok.0, c.self.invariant.2)

pub invariant_of-self : goal.invariant_of-self
invariant_of-self c =
    let items = c.self.inside.volleys.items in
    let few = few_volleys items c.self.invariant.0 (rw (← c.self.view_is) at c.requires) in
    let pushed = rw c.begin.ensures at c.push_back_reserved.ensures.items in
    (rw pushed (in_order-push items c.args.message c.self.invariant.0), rw pushed (omega (arith, few, length-append items (volley_of c.args.message ∷ []))), omega (arith, c.push_back_reserved.ensures.capacity, c.self.invariant.2))

pub returns : goal.returns
returns c =
    let pushed = rw c.begin.ensures at c.push_back_reserved.ensures.items in
    ap copies_of pushed ∙ copies-push c.self.inside.volleys.items c.args.message ∙ ap (λ xs. xs ++ c.args.message ∷ c.args.message ∷ c.args.message ∷ []) c.self.view_is
