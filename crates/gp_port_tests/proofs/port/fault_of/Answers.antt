use Rattle.std.proofs.Common.{ap, ◌∙◌}
use Rattle.std.specs.FinMap.{len-empty}
use Rattle.gp_ploam.specs.Serials.{serial_cmp}
use Rattle.gp_unit.specs.declared.row.Row.{Row}
use Rattle.gp_machine.specs.State.{rows_of}
use Rattle.gp_port_tests.proofs.port.fault_of.Goals as goal

pub drop_empty-requires : goal.drop_empty-requires
drop_empty-requires c =
    let opening = rw c.in-Ok.is at c.begin.ensures.opening in
    c.close.ensures ∙ ap rows_of opening ∙ len-empty serial_cmp Row
