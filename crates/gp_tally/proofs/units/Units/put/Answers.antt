use Rattle.std.proofs.Common.{sym, ap, ◌∙◌}
use Rattle.std.specs.FinMap as map
use Rattle.gp_tally.proofs.Entries.{get_found, inserted, on_err}
use Rattle.gp_tally.proofs.units.Units.put.Goals as goal

pub returns-in_err-insert-clause-new : goal.returns-in_err-insert-clause-new
returns-in_err-insert-clause-new c =
    on_err c.from_residual.result
    (ap (λ m. map.get m c.args.serial.now) (sym c.self.view_is) ∙ get_found c.self.inside.counts.entries c.args.serial.now c.self.invariant ∙ c.in_err-insert.ensures.absent)

pub returns-clause-ok : goal.returns-clause-ok
returns-clause-ok c =
    inserted c.self.inside.counts.entries c.insert.new.self.entries c.args.serial.now c.args.unit c.self.invariant c.insert.ensures.ordered c.in_ok-insert.ensures.updates.0
    ∙ ap (λ m. map.insert m c.args.serial.now c.args.unit) c.self.view_is
