use Rattle.std.proofs.Common.{refl}
use Rattle.gp_unit.proofs.Kept.{has_held}
use Rattle.gp_table.proofs.Together.{releasing_keeps}
use Rattle.gp_table.proofs.active_units.ActiveUnits.release_alloc.Goals as goal

pub set_row-requires : goal.set_row-requires
set_row-requires c =
    let row = c.args.unit.row in
    rw c.releasing.ensures (record { old = row; has = c.requires.active; same_onu = refl; same_allocs = releasing_keeps row c.args.alloc (has_held row c.args.alloc c.requires.held) })
