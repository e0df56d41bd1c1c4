use Rattle.std.proofs.Common.{refl, sym, ◌∙◌}
use Rattle.gp_unit.proofs.Kept.{sound_unranged}
use Rattle.gp_port.proofs.port_machine.PortMachine.unranged.Goals as goal

pub set_row-requires : goal.set_row-requires
set_row-requires c =
    let kept = sound_unranged c.args.self.now.config.alloc_last c.args.row c.in-Some.still c.args.heard c.requires.fits (sym c.unranged.ensures ∙ c.in-Some.is) in
    rw c.close_window.ensures (c.args.row, c.requires.has, sym kept.1.onu, sym kept.1.allocs)

pub remove_unit-requires : goal.remove_unit-requires
remove_unit-requires c = rw c.close_window.ensures (c.args.row, c.requires.has, refl, c.requires.fits)
