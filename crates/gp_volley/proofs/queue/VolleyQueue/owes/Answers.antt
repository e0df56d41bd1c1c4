use Rattle.std.proofs.Common.{◌≡◌, ◌≢◌, rules, tests}
use Rattle.std.proofs.lemmas.Iterator.{cases_from_any}
use Rattle.std.proofs.lemmas.Iterator.Consumers.{YieldsList-from_deque}
use Rattle.gp_volley.proofs.Copies.{owed_if_volley}
use Rattle.gp_volley.proofs.queue.VolleyQueue.owes.Goals as goal

pub returns : goal.returns
returns c =
    let by_call = cases_from_any _ _ _ (λ v. v.message ≡ c.args.message.now) (λ v. v.message ≢ c.args.message.now) c.any.ensures.ran (YieldsList-from_deque c.self.inside.volleys.items c.iter.ensures.rest) (λ x q k. search (rules, tests)) (λ x q k. search (rules, tests)) in
    rw (← c.self.view_is) (owed_if_volley c.any.result c.args.message.now c.self.inside.volleys.items c.self.invariant.0 by_call)
