use Rattle.std.proofs.Common.{◌∙◌}
use Rattle.gp_ploam.specs.Serials.{serial_cmp}
use Rattle.gp_serial.proofs.KeyLemmas.{written_in_order}
use Rattle.gp_serial.proofs.key.SerialKeyOrd.cmp.Goals as goal

pub returns : goal.returns
returns c =
    c.cmp.ensures
    ∙ written_in_order c.self.inside.number c.other.inside.number c.self.invariant c.other.invariant
    ∙ (λ i. serial_cmp (c.self.view_is i) (c.other.view_is i))
