use Rattle.std.proofs.Common.{sym, ap, ◌∙◌, arith}
use Rattle.gp_table.specs.Active.{left_or_zero}
use Rattle.gp_table.proofs.Counts.{get-counts_of}
use Rattle.gp_table.proofs.active_units.ActiveUnits.frames_left.Goals as goal

pub returns-in-Some : goal.returns-in-Some
returns-in-Some c =
    rw (← c.self.view_is) (ap left_or_zero (sym c.in-Some.is) ∙ ap left_or_zero c.frames_left.ensures ∙ sym (get-counts_of c.self.inside.onus.quarantine.cooling c.args.onu (omega (arith, c.requires))))

pub returns-in-None : goal.returns-in-None
returns-in-None c =
    rw (← c.self.view_is) (ap left_or_zero (sym c.in-None.is) ∙ ap left_or_zero c.frames_left.ensures ∙ sym (get-counts_of c.self.inside.onus.quarantine.cooling c.args.onu (omega (arith, c.requires))))
