use Rattle.std.proofs.Common.{rules}
use Rattle.gp_census.proofs.Allocs.{written_none, written_more, written_same}
use Rattle.gp_census.proofs.pieces.push_allocs_of.Goals as goal
use Rattle.gp_census.proofs.pieces.push_allocs_of.Goals.{then-belongs_to+in_ok-push_field, else-belongs_to}

pub loop-alloc-init : goal.loop-alloc-init
loop-alloc-init c = written_none c.args.watch.now c.args.onu c.args.first.now c.args.other.now c.args.out.now.items

pub loop-alloc-preserved : goal.loop-alloc-preserved
loop-alloc-preserved c =
    elim c.if-belongs_to.branch [
      | then-belongs_to+in_ok-push_field w ↦
          written_more c.args.watch.now c.args.onu c.args.first.now c.args.other.now c.args.out.now.items w.before-then-belongs_to.result.now c.loop-alloc.alloc
          c.loop-alloc.out.items _ c.loop-alloc.some _ c.loop-alloc.invariant (search rules) w.before-then-belongs_to.ensures (search rules) (search rules)
      | else-belongs_to w ↦
          written_same c.args.watch.now c.args.onu c.args.first.now c.args.other.now c.args.out.now.items c.loop-alloc.alloc
          c.loop-alloc.out.items _ c.loop-alloc.some _ c.loop-alloc.invariant (search rules) (search rules) (search rules)
    ]
