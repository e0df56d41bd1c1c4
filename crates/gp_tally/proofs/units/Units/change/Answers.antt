use Rattle.std.proofs.Common.{◌≡◌, None, Some, is_some, sym, ap, ◌∙◌}
use Rattle.std.specs.FinMap as map
use Rattle.gp_ploam.specs.Serials.{serial_cmp}
use Rattle.gp_tally.specs.declared.counts.UnitCounts.{UnitCounts}
use Rattle.gp_tally.proofs.Entries.{get_found, inserted}
use Rattle.gp_tally.proofs.units.Units.change.Goals as goal

pub returns-in_default : goal.returns-in_default
returns-in_default c =
    let none : map.get c.args.self.now c.args.serial.now ≡ None =
    ap (λ m. map.get m c.args.serial.now) (sym c.self.view_is)
    ∙ get_found c.self.inside.counts.entries c.args.serial.now c.self.invariant
    ∙ sym c.in_default.ensures.value in
    rw none (ap (λ m. map.from_sorted {R = serial_cmp} m.entries) c.get_mut.follows.holds-at-none ∙ c.self.view_is)

pub returns : goal.returns
returns c =
    let some : map.get c.args.self.now c.args.serial.now ≡ Some c.in-Some.unit.now =
    ap (λ m. map.get m c.args.serial.now) (sym c.self.view_is)
    ∙ get_found c.self.inside.counts.entries c.args.serial.now c.self.invariant
    ∙ sym c.in-Some.ensures.value in
    let set : UnitCounts = c.after.result in
    let written = c.get_mut.follows.holds set in
    rw some (
    inserted c.self.inside.counts.entries (c.get_mut.follows.lender set).entries c.args.serial.now set c.self.invariant written.4 (written.3 (sym (ap is_some c.in-Some.ensures.value))).0
    ∙ ap (λ m. map.insert m c.args.serial.now set) c.self.view_is
    ∙ ap (λ u. map.insert c.args.self.now c.args.serial.now u) c.after.ensures
    )
