use Rattle.std.proofs.Common.{rules, ◌∙◌, ◌-◌, ap}
use Rattle.gp_waves.specs.Queue.{no_queue}
use Rattle.gp_waves.specs.Held.{HeldState}
use Rattle.gp_waves.proofs.HeldLemmas.{has_seen, lanes_seen, taken_first, variable_seen, within_seen}
use Rattle.gp_waves.proofs.held.Held.take_first.Goals as goal

pub returns-in_err-queue-clause-none : goal.returns-in_err-queue-clause-none
returns-in_err-queue-clause-none c =
    absurd (within_seen c.args.self.now c.self.inside.queues.items c.in_ok-port.port c.from.result (ap (λ (h : HeldState). h.queues) c.self.view_is)
    c.from.ensures c.in_ok-port.ensures.value (search rules))

pub returns-in_err-held-clause-same : goal.returns-in_err-held-clause-same
returns-in_err-held-clause-same c =
    lanes_seen c.args.self.now c.self.inside.queues.items c.from.result c.in_ok-queue.queue.now c.take.new.self (ap (λ (h : HeldState). h.queues) c.self.view_is)
    (c.in_ok-queue.ensures.item.3.1 no_queue) c.take.ensures.lanes

pub returns-in_err-held-clause-none : goal.returns-in_err-held-clause-none
returns-in_err-held-clause-none c =
    absurd (has_seen c.args.self.now c.self.inside.queues.items c.in_ok-port.port c.from.result c.in_ok-queue.queue.now
    (ap (λ (h : HeldState). h.queues) c.self.view_is) c.from.ensures c.in_ok-port.ensures.value (c.in_ok-queue.ensures.item.3.1 no_queue) c.in_err-held.ensures.none)

pub returns-in_err-held-clause-still : goal.returns-in_err-held-clause-still
returns-in_err-held-clause-still c =
    absurd (has_seen c.args.self.now c.self.inside.queues.items c.in_ok-port.port c.from.result c.in_ok-queue.queue.now
    (ap (λ (h : HeldState). h.queues) c.self.view_is) c.from.ensures c.in_ok-port.ensures.value (c.in_ok-queue.ensures.item.3.1 no_queue) c.in_err-held.ensures.none)

pub returns-clause-declared : goal.returns-clause-declared
returns-clause-declared c =
    variable_seen c.args.self.now c.self.inside.queues.items c.in_ok-port.port c.from.result c.in_ok-queue.queue.now c.in_ok-held.held.what c.of.result
    (ap (λ (h : HeldState). h.queues) c.self.view_is) c.from.ensures (search rules) (c.in_ok-queue.ensures.item.3.1 no_queue)
    c.in_ok-held.ensures.fits c.in_ok-held.ensures.most c.of.ensures

pub returns-clause-same : goal.returns-clause-same
returns-clause-same c =
    lanes_seen c.args.self.now c.self.inside.queues.items c.from.result c.in_ok-queue.queue.now c.take.new.self (ap (λ (h : HeldState). h.queues) c.self.view_is)
    (c.in_ok-queue.ensures.item.3.1 no_queue) c.take.ensures.lanes

pub returns-clause-taken : goal.returns-clause-taken
returns-clause-taken c =
    taken_first c.args.self.now c.self.inside.queues.items c.in_ok-port.port c.from.result c.saturating_sub-self-inside.result c.in_ok-queue.queue.now
    c.take.new.self c.in_ok-held.held c.of.result (ap (λ (h : HeldState). h.queues) c.self.view_is) c.from.ensures c.in_ok-port.ensures.value
    (c.in_ok-queue.ensures.item.3.1 no_queue) c.in_ok-held.ensures.first c.take.ensures.lanes
    (c.saturating_sub-self-inside.ensures ∙ ap (λ (h : HeldState). h.count - 1) c.self.view_is) c.of.ensures
