use Rattle.std.proofs.Common.{arith, sym, ◌∙◌}
use Rattle.gp_pools.proofs.Cool.{seen_none, seen_out, seen_past, seen_stay, left_is}
use Rattle.gp_pools.proofs.cooling.let_out.Goals.{then-contains+then-left-eq0, then-contains+else-left-eq0, else-contains}
use Rattle.gp_pools.proofs.cooling.let_out.Goals as goal

pub numbers-init : goal.numbers-init
numbers-init c = seen_none c.args.members.now c.args.leaves.now c.args.now

pub numbers-preserved : goal.numbers-preserved
numbers-preserved c =
    elim c.if-contains.branch [
      | then-contains+then-left-eq0 w ↦
          let left = left_is c.args.leaves.now c.args.now c.numbers.number w.from.result w.from.ensures (omega arith) in
          rw (w.members-is, w.wait-is, w.remove.ensures)
          (seen_out c.args.members.now c.numbers.members c.args.leaves.now c.args.now c.numbers.number c.numbers.wait (sym left ∙ w.if-left-eq0.true) c.numbers.invariant)
      | then-contains+else-left-eq0 w ↦
          let left = left_is c.args.leaves.now c.args.now c.numbers.number w.from.result w.from.ensures (omega arith) in
          rw (w.members-is, w.wait-is)
          (seen_stay c.args.members.now c.numbers.members c.args.leaves.now c.args.now c.numbers.number c.numbers.wait w.sooner-wait.result (omega arith) (sym c.contains.ensures ∙ w.if-contains.true)
          (omega (arith, left, w.if-left-eq0.false)) w.sooner-wait.ensures.some (rw left at w.sooner-wait.ensures.left) w.sooner-wait.ensures.wait (rw left at w.sooner-wait.ensures.either) c.numbers.invariant)
      | else-contains w ↦
          rw (w.members-is, w.wait-is)
          (seen_past c.args.members.now c.numbers.members c.args.leaves.now c.args.now c.numbers.number c.numbers.wait (sym c.contains.ensures ∙ w.if-contains.false) c.numbers.invariant)
    ]
