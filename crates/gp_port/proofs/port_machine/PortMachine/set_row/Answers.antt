use Rattle.std.proofs.Common.{◌≡◌, ℕ, is_some, sym, ap}
use Rattle.std.specs.FinMap.{get}
use Rattle.gp_unit.specs.declared.row.Row.{Row}
use Rattle.gp_unit.specs.Rows.{AllocMap, has_alloc}
use Rattle.gp_port.proofs.port_machine.PortMachine.set_row.Goals as goal

has_same : (one other : Row) (alloc : ℕ) → one.allocs ≡ other.allocs → has_alloc alloc other ≡ has_alloc alloc one
has_same one other alloc same = ap (λ (m : AllocMap). is_some (get m alloc)) (sym same)

pub set_row-requires : goal.set_row-requires
set_row-requires c =
    let kept = rw (← c.self.view_is) at c.requires in
    record { old = kept.0; has = kept.1; same_onu = kept.2; same_allocs = λ alloc. has_same kept.0 c.args.row alloc kept.3 }
