use Rattle.std.proofs.Common.{◌<◌, ◌≤◌, ◌+◌, ◌-◌, ◌/◌, ap, sym, ◌∙◌, length, arith, refl, Some}
use Rattle.std.specs.Option.{option_map}
use Rattle.std.specs.List.{slice_get}
use Rattle.std.specs.VecDeque.{deque_len}
use Rattle.std.proofs.lemmas.Bool.{false≢true}
use Rattle.std.proofs.lemmas.Option.{slice_get_past, slice_get_read}
use Rattle.gp_volley.proofs.Copies.{get-by_first, message_of}
use Rattle.gp_volley.proofs.queue.VolleyQueue.copy_at.Goals as goal

pub returns-in_err-volley : goal.returns-in_err-volley
returns-in_err-volley c =
    let items = c.self.inside.volleys.items in
    let first = c.in_ok-first.first.now in
    let left = c.from-left.ensures ∙ c.left.ensures.left in
    let size = c.self.inside.volleys.ok.0 in
    let some : 0 < length c.self.inside.volleys.items = let h = c.in_ok-first.ensures.variant.0 refl in omega arith in
    let none : ¬ (1 + (c.args.i - c.from-left.result) / 3 < deque_len c.self.inside.volleys) = λ h. false≢true (c.in_err-volley.ensures.variant.1 h) in
    let past : length c.self.inside.volleys.items ≤ 1 + (c.args.i - c.in_ok-first.first.now.left) / 3 = omega arith in
    let there = get-by_first items first some c.in_ok-first.ensures.lookup c.self.invariant.0 c.args.i (omega (arith, c.if-i-left.false)) in
    rw (← c.self.view_is)
    (c.from_residual-in_err-volley.ensures ∙ sym (there ∙ ap (option_map message_of) (slice_get_past items (1 + (c.args.i - first.left) / 3) past)))

pub returns : goal.returns
returns c =
    let items = c.self.inside.volleys.items in
    let first = c.in_ok-first.first.now in
    let left = c.from-left.ensures ∙ c.left.ensures.left in
    let size = c.self.inside.volleys.ok.0 in
    let some : 0 < length c.self.inside.volleys.items = let h = c.in_ok-first.ensures.variant.0 refl in omega arith in
    let within : 1 + (c.args.i - c.from-left.result) / 3 < length c.self.inside.volleys.items = let h = c.in_ok-volley.ensures.variant.0 refl in omega arith in
    let read = slice_get_read items (length items) (1 + (c.args.i - c.from-left.result) / 3) c.in_ok-volley.volley.now refl within c.in_ok-volley.ensures.lookup in
    let there = get-by_first items first some c.in_ok-first.ensures.lookup c.self.invariant.0 c.args.i (omega (arith, c.if-i-left.false)) in
    rw (← c.self.view_is)
    (ap Some c.message-2.ensures
    ∙ sym (there ∙ ap (λ n. option_map message_of (slice_get items (1 + (c.args.i - n) / 3))) (sym left) ∙ ap (option_map message_of) read))
