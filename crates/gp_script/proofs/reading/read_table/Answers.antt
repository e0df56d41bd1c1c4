use Rattle.std.proofs.Common.{ap, length, sym, ◌∙◌}
use Rattle.std.proofs.lemmas.List.{nil_from_length}
use Rattle.gp_script.specs.View.{losses_view}
use Rattle.gp_script.proofs.LoseLemmas.{nothing_lost}
use Rattle.gp_script.proofs.reading.read_table.Goals as goal

pub returns-clause-no_units : goal.returns-clause-no_units
returns-clause-no_units c =
    λ without.
    let none = c.in-Ok.ensures.no_units without in (
      nil_from_length c.in_ok-units.units.items (sym c.in_ok-units.units.ok.0 ∙ c.in_ok-units.ensures.count ∙ ap (λ tables. length tables) none.0),
      nothing_lost (losses_view c.in_ok-losses.losses) c.in-Ok.top.losses.now none.1 c.in_ok-losses.ensures,
    )
