use Rattle.std.proofs.Common.{◌≡◌, nat_lt, ◌==◌, arith, sym, ap, ◌∙◌}
use Rattle.std.specs.FinSet as finset
use Rattle.std.proofs.lemmas.Bool.{le-ltb}
use Rattle.gp_observer.specs.Watch.{Watch}
use Rattle.gp_watch.specs.Changes.{watch_without}
use Rattle.gp_watch.proofs.GivingUp.{without_none, next_given_up, all_given_up}
use Rattle.gp_watch.proofs.watch.PortWatch.give_up_all.Goals as goal

pub loop-onu-init : goal.loop-onu-init
loop-onu-init c = sym (without_none c.args.self.now (λ n. nat_lt n 0) (λ n. le-ltb n 0 (omega arith)))

pub loop-onu-preserved : goal.loop-onu-preserved
loop-onu-preserved c =
    let k = c.loop-onu.onu in
    c.give_up.ensures ∙ ap (λ (w : Watch). watch_without w (λ n. n == k)) c.loop-onu.invariant ∙ next_given_up c.args.self.now k

pub returns : goal.returns
returns c =
    let w : Watch = c.args.self.now in
    let t = c.self.inside.tables in
    let is = sym c.self.view_is in
    let end : c.loop-onu.onu ≡ 256 = omega (arith, c.loop-onu-test.false, c.loop-onu.auto.onu-end) in
    rw c.tell_none.ensures
    (ap (λ (v : Watch). record v { told = finset.empty })
    (c.self-2.view_is ∙ c.loop-onu.invariant ∙ ap (λ k. watch_without w (λ n. nat_lt n k)) end)
    ∙ all_given_up w t c.are_low.ensures (ap (λ (v : Watch). v.seen.holder) is) (ap (λ (v : Watch). v.seen.delay) is) (ap (λ (v : Watch). v.answers) is) (ap (λ (v : Watch). v.seen.alloc) is))
