-- A run of a fibre (this profile's own rule).
use Rattle.std.specs.Prelude.{◌≡◌, ℕ, List, [], ◌∷◌, ◌++◌, Option}
use Rattle.std.specs.Option.{option_to_list}
use Rattle.gp_machine.specs.declared.config.PortConfig.{PortConfig}
use Rattle.gp_machine.specs.declared.entry.Entry.{Entry}
use Rattle.gp_fibre.specs.declared.unit_plan.UnitPlan.{UnitPlan}
use Rattle.gp_fibre.specs.World.{FibreWorld, opening_world}
use Rattle.gp_fibre.specs.Step.{FibreInput, FibreStep}

-- the inputs lead one after the other from the old world to the new one, and these are the entries that they give, in
-- order
abbrev pub FibreRun : FibreWorld → List FibreInput → List Entry → FibreWorld → Type 0
FibreRun old [] entries new = (new ≡ old) × (entries ≡ [])
FibreRun old (input ∷ inputs) entries new =
    (mid : FibreWorld) × (given : Option Entry) × (rest : List Entry)
    × FibreStep old input given mid × FibreRun mid inputs rest new × (entries ≡ option_to_list given ++ rest)

-- a run leads from the beginning of a world with this configuration, these licences and these units to this world
abbrev pub IsReachedWorld : PortConfig → ℕ → List UnitPlan → FibreWorld → Type 0
IsReachedWorld config licences plans world =
    (inputs : List FibreInput) × (entries : List Entry)
    × FibreRun (opening_world config licences plans) inputs entries world
