use Rattle.std.proofs.Common.{◌≡◌}
use mathlib.Core.List.{IsPrefix}
use Rattle.rtrb.specs.Ring.{received, known_items}
use Rattle.gp_workers.proofs.reader.next_item.Given as goal

abbrev pub invariant-loop : goal.invariant-loop
invariant-loop g l = record {
  taken : received l.consumer ≡ received l.initial.consumer;
  known : IsPrefix (known_items l.initial.consumer) (known_items l.consumer);
}
