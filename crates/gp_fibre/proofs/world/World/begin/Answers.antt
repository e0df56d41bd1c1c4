use Rattle.std.proofs.Common.{◌≡◌, ap, ◌∙◌, arith}
use Rattle.std.specs.FinMap.{len-empty}
use Rattle.gp_ploam.specs.Serials.{serial_cmp}
use Rattle.gp_machine.specs.State.{rows_of}
use Rattle.gp_unit.specs.declared.row.Row.{Row}
use Rattle.gp_fibre.proofs.world.World.begin.Goals as goal

pub new-requires-in-Ok : goal.new-requires-in-Ok
new-requires-in-Ok g c =
    let none : rows_of c.in-Ok.core ≡ 0 = ap rows_of c.in-Ok.ensures.opening ∙ len-empty serial_cmp Row in
    omega (arith, c.new.ensures.free, c.new.ensures.total)
