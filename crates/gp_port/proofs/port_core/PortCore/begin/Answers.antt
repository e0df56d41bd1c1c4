use Rattle.std.proofs.Common.{sym}
use Rattle.std.specs.FinMap.{len-empty}
use Rattle.gp_ploam.specs.Serials.{serial_cmp}
use Rattle.gp_unit.specs.declared.row.Row.{Row}
use Rattle.gp_machine.proofs.SoundFrames.{sound_opening}
use Rattle.gp_port.proofs.port_core.PortCore.begin.Goals as goal

pub invariant_of-result : goal.invariant_of-result
invariant_of-result g c =
    let opening = rw c.in_ok-machine.was at c.begin.ensures.opening in
    record {
      limits = rw opening (rw c.in_ok-machine.was at c.begin.ensures.within);
      sound = rw opening (sound_opening c.args.config.now);
      licences = rw (opening, c.none.ensures) (sym (len-empty serial_cmp Row));
    }
