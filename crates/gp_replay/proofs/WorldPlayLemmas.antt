-- A whole play on a fibre: what its script has to be for it.
use Rattle.std.proofs.Common.{◌≡◌, ℕ, suc, ◌<◌, ◌≤◌, ◌&&◌, Bool, true, List, [], ◌∷◌, All, IsTrue, length, get_or, map, Result, subst, refl, sym, ap, ◌∙◌, arith}
use Rattle.std.specs.List.{list_all}
use Rattle.std.proofs.lemmas.Bool.{le-leb}
use Rattle.std.proofs.lemmas.List.{length-map}
use Rattle.gp_licence.specs.declared.ledger_parts.TheConstants.{MAX_LICENCES}
use Rattle.gp_ploam.specs.declared.check.Mask.{Mask}
use Rattle.gp_machine.specs.declared.config.PortConfig.{PortConfig}
use Rattle.gp_machine.specs.Config.{is_within_limits}
use Rattle.gp_onu.specs.declared.limits.TheConstants.{MAX_SIMULATED_UNITS}
use Rattle.gp_fibre.specs.declared.world_step.WorldStep.{WorldStep}
use Rattle.gp_fibre.specs.World.{is_plan_within_limits, is_world_within_limits, planned_unit}
use Rattle.gp_fibre.specs.Schedule.{WorldState}
use Rattle.gp_fibre.specs.Forgetting.{WorldForgets}
use Rattle.gp_fibre.proofs.Frames.{frames_are_runs}
use Rattle.gp_fibre.proofs.Remembering.{world_forgets_none}
use Rattle.gp_fibre.proofs.Steps.{port_runs, runs_in_parts}
use Rattle.gp_script.specs.declared.script.ScriptEvent.{ScriptEvent}
use Rattle.gp_script.specs.declared.script.ScriptUnit.{ScriptUnit}
use Rattle.gp_script.specs.Lose.{LossesView}
use Rattle.gp_script.specs.Playable.{IsPlayable}
use Rattle.gp_script.specs.Script.{ScriptView}
use Rattle.gp_script.specs.Unit.{is_unit_within_limits}
use Rattle.gp_script.specs.View.{NamesOneOf}
use Rattle.gp_stream.specs.Sink.{SinkState}
use Rattle.gp_replay.specs.declared.fault.PlayFault.{PlayFault}
use Rattle.gp_replay.specs.WorldPlay.{TakesStep, WorldPlays, WorldTakes, WorldTakesAll, opening_fibre, plan_of, receipts_from}
use Rattle.gp_replay.specs.WorldWriting.{FibrePlay, MayTakeStep, Numbered, WorldTakesPart, WorldTakesPrefix}
use Rattle.gp_replay.specs.ScriptPlay.{ByFibre, SomeByFibre}
use Rattle.gp_replay.specs.Writing.{PlaysOn}
use Rattle.gp_replay.proofs.ScriptPlayLemmas.{StandsFor}
use Rattle.gp_replay.proofs.WorldLemmas.{all_are_prefix, numbered_as}
use Rattle.gp_replay.proofs.WorldRunLemmas.{world_runs}

-- ---- one event

-- a step that is played is an event that stands for it
pub step_plays : {W : Type 0} (mask : Mask) (losses : LossesView) (event : ScriptEvent) (step : WorldStep) (e : ScriptEvent) (s : WorldStep) (old new : FibrePlay)
    (x y : SinkState W) (r : Result (Unit {0}) PlayFault) → event ≡ e → step ≡ s
    → (PlaysOn mask (Numbered (TakesStep s)) (Numbered (MayTakeStep s)) old new x y r
    → PlaysOn mask (Numbered (WorldTakes losses e)) (Numbered (WorldTakesPart losses e)) old new x y r)
    → PlaysOn mask (Numbered (TakesStep step)) (Numbered (MayTakeStep step)) old new x y r
    → PlaysOn mask (Numbered (WorldTakes losses event)) (Numbered (WorldTakesPart losses event)) old new x y r
step_plays mask losses event step e s old new x y r is is_step turn p =
    subst (λ (o : ScriptEvent). PlaysOn mask (Numbered (WorldTakes losses o)) (Numbered (WorldTakesPart losses o)) old new x y r) (sym is)
    (turn (subst (λ (o : WorldStep). PlaysOn mask (Numbered (TakesStep o)) (Numbered (MayTakeStep o)) old new x y r) is_step p))

-- ---- what a script has to be

plans_within : (units : List ScriptUnit) → All (λ unit. IsTrue (is_unit_within_limits unit)) units → list_all is_plan_within_limits (map plan_of units) ≡ true
plans_within [] all = refl
plans_within (unit ∷ units) all =
    let first : is_plan_within_limits (plan_of unit) ≡ true = all 0 unit (omega arith) in
    let rest = plans_within units (λ k d within. all (suc k) d (omega (arith, within))) in
    ap (λ b. b && list_all is_plan_within_limits (map plan_of units)) first ∙ rest

-- a script with units has one port, and with it makes a world within its limits
pub the_port : (ports : List PortConfig) (d : PortConfig) → length ports ≡ 1 → ports ≡ get_or ports 0 d ∷ []
the_port [] d one = absurd (omega (arith, one))
the_port (port ∷ []) d one = refl
the_port (port ∷ other ∷ more) d one = absurd (omega (arith, one))

both : (a b : Bool) → a ≡ true → b ≡ true → (a && b) ≡ true
both a b p q = ap (λ x. x && b) p ∙ q

pub world_within : (script : ScriptView) (config : PortConfig) → IsPlayable script → IsTrue (is_within_limits config) → is_world_within_limits config script.licences (map plan_of script.units) ≡ true
world_within script config playable within =
    let plans = map plan_of script.units in
    let many : length plans ≡ length script.units = length-map script.units plan_of in
    let few : length plans ≤ MAX_SIMULATED_UNITS = let h = playable.few_units in omega arith in
    both _ _ (both _ _ (both _ _ within (le-leb script.licences MAX_LICENCES playable.licences)) (le-leb (length plans) MAX_SIMULATED_UNITS few)) (plans_within script.units playable.units)

-- the units with which a fibre opens are as many as the script's
pub opening_units : (script : ScriptView) (config : PortConfig) → length (opening_fibre script config).fibre.units ≡ length script.units
opening_units script config = length-map (map plan_of script.units) (planned_unit config.mask) ∙ length-map script.units plan_of

pub names_one : (script : ScriptView) (ports units : ℕ) → IsPlayable script → length script.ports ≡ ports → units ≡ length script.units → All (NamesOneOf ports units) script.events
names_one script ports units playable one many =
    subst (λ (n : ℕ). All (NamesOneOf n units) script.events) one (subst (λ (n : ℕ). All (NamesOneOf (length script.ports) n) script.events) (sym many) playable.events)

-- ---- what happens from the opening of its fibre on

pub world_stands : (script : ScriptView) (config : PortConfig) (player : FibrePlay) → 0 < length script.units → script.ports ≡ config ∷ []
    → player.world ≡ opening_fibre script config → player.next ≡ 0
    → StandsFor script player (Numbered (WorldTakesAll script.losses script.events)) (Numbered (WorldTakesPrefix script.losses script.events))
world_stands script config player some port world next = record {
  all = λ rs end n.
      let done = n.happened (opening_fibre script config) opened in
      let told = n.receipts_are ∙ ap (λ (k : ℕ). receipts_from k n.entries) next in
      let plays : WorldPlays script rs = record { config = config; one_port = port; entries = n.entries; end = done.0; takes = done.1; receipts_are = told } in
      (ByFibre some plays, world_runs frames_are_runs runs_in_parts port_runs script rs plays);
  some = λ rs end n.
      let done = n.happened (opening_fibre script config) opened in
      let happened : WorldTakesPrefix script.losses script.events (opening_fibre script config) n.entries done.0 = done.1 in
      let told = n.receipts_are ∙ ap (λ (k : ℕ). receipts_from k n.entries) next in
      SomeByFibre some (record { config = config; one_port = port; done = happened.0; prefix = happened.1; entries = n.entries; end = done.0; takes = happened.2; receipts_are = told });
  is_part = λ rs end n.
      numbered_as (WorldTakesAll script.losses script.events) (WorldTakesPrefix script.losses script.events) (λ a b es t. all_are_prefix script.losses script.events a b es t) player end rs n;
}
  where
    opened : WorldForgets (opening_fibre script config) player.world
    opened = subst (λ (w : WorldState). WorldForgets (opening_fibre script config) w) (sym world) (world_forgets_none (opening_fibre script config))
