-- Each unit was sent what it has.
use Rattle.std.proofs.Common.{◌≡◌, ℕ, List, [], ◌++◌, Some, sym, subst}
use Rattle.std.specs.Prelude.{All, map, slice_get}
use Rattle.std.specs.Option.{option_to_list}
use Rattle.std.proofs.lemmas.List.Elements.{All-map, All-set, All-weaker}
use Rattle.std.proofs.lemmas.Option.{get_or_from_slice_get, slice_get_within}
use Rattle.gp_ploam.specs.declared.message.Down.{Down}
use Rattle.gp_machine.specs.declared.config.PortConfig.{PortConfig}
use Rattle.gp_onu.specs.Table.{Frame}
use Rattle.gp_onu.specs.Told.{KnowsWhatItHears, StaysTold}
use Rattle.gp_fibre.specs.declared.unit_plan.UnitPlan.{UnitPlan}
use Rattle.gp_fibre.specs.World.{FibreUnit, FibreWorld, planned_unit, opening_world}
use Rattle.gp_fibre.specs.Step.{unit_taking}
use Rattle.gp_fibre.specs.Told.{IsToldUnit}
use Rattle.gp_fibre.specs.Laws.{UnitsAreTold}
use Rattle.gp_fibre.proofs.Steps.{IsKeptBySteps, run_keeps}

abbrev AreTold : FibreWorld → Type 0
AreTold w = All (IsToldUnit w.copies) w.units

at_place : (P : FibreUnit → Type 0) (us : List FibreUnit) (place : ℕ) (u : FibreUnit) → slice_get us place ≡ Some u → All P us → P u
at_place P us place u there all = subst (λ (x : FibreUnit). P x) (get_or_from_slice_get us place u u there) (all place u (slice_get_within us place u there))

keeps_told : KnowsWhatItHears → StaysTold → IsKeptBySteps AreTold
keeps_told knows stays =
    record {
      port = λ w v event entry t h.
          let more = option_to_list entry.answer.sent in
          let later : All (IsToldUnit (w.copies ++ more)) w.units =
          All-weaker (IsToldUnit w.copies) (IsToldUnit (w.copies ++ more)) (λ u told. stays w.copies more u.state told) w.units h in
          subst (λ (us : List FibreUnit). All (IsToldUnit v.copies) us) (sym t.units)
          (subst (λ (cs : List Down). All (IsToldUnit cs) w.units) (sym t.copies) later);
      unit = λ w place input u there from h.
          All-set (IsToldUnit w.copies) w.units place (unit_taking input u)
          (knows w.copies u.state input from (at_place (IsToldUnit w.copies) w.units place u there h)) h;
      bursts = λ w more h. h;
      frame = λ w h.
          All-map (IsToldUnit w.copies) (unit_taking Frame) w.units
          (All-weaker (IsToldUnit w.copies) (λ u. IsToldUnit w.copies (unit_taking Frame u)) (λ u told. knows w.copies u.state Frame tt told) w.units h);
    }

at_first : (config : PortConfig) (plans : List UnitPlan) → All (IsToldUnit []) (map (planned_unit config.mask) plans)
at_first config plans = All-map (IsToldUnit []) (planned_unit config.mask) plans (λ k d h. tt)

pub units_are_told : KnowsWhatItHears → StaysTold → UnitsAreTold
units_are_told knows stays config licences plans world reached =
    run_keeps AreTold (keeps_told knows stays) (opening_world config licences plans) reached.0 reached.1 world reached.2 (at_first config plans)
