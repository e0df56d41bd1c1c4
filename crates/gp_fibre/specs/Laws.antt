-- What is true of every run of a fibre (this profile's own rule).
use Rattle.std.specs.Prelude.{◌≡◌, ◌≢◌, ◌↔◌, ℕ, ◌+◌, List, ◌∷◌, ◌++◌, ◌⊎◌, Some, All, Contains}
use Rattle.gp_ploam.specs.declared.message.Serial.{Serial}
use Rattle.gp_ploam.specs.declared.message.Down.{Down}
use Rattle.gp_ploam.specs.declared.message.Down.TheVariants.{AssignOnu}
use Rattle.gp_machine.specs.declared.config.PortConfig.{PortConfig}
use Rattle.gp_machine.specs.declared.entry.Entry.{Entry}
use Rattle.gp_machine.specs.State.{rows_of}
use Rattle.gp_machine.specs.Sound.{IsSound}
use Rattle.gp_laws.specs.Numbers.{HasOnuId}
use Rattle.gp_machine.specs.Run.{Run}
use Rattle.gp_laws.specs.Removals.{TakesOnuId}
use Rattle.gp_onu.specs.Stage.{onu_id_of}
use Rattle.gp_fibre.specs.declared.unit_plan.UnitPlan.{UnitPlan}
use Rattle.gp_fibre.specs.World.{FibreUnit, FibreWorld}
use Rattle.gp_fibre.specs.Step.{FibreInput}
use Rattle.gp_fibre.specs.Run.{FibreRun, IsReachedWorld}
use Rattle.gp_fibre.specs.Schedule.{WorldState, FramesRun}
use Rattle.gp_fibre.specs.Told.{IsToldUnit, sent_and_owed}

-- a run by two lists of inputs is a run by the first, and from where that ends a run by the second
abbrev pub RunsInParts : Type 0
RunsInParts =
    (old mid new : FibreWorld) (inputs more : List FibreInput) (entries rest : List Entry)
    → FibreRun old inputs entries mid
    → FibreRun mid more rest new
    → FibreRun old (inputs ++ more) (entries ++ rest) new

-- the entries of a run are a run of the port
abbrev pub PortRuns : Type 0
PortRuns =
    (old new : FibreWorld) (inputs : List FibreInput) (entries : List Entry) → FibreRun old inputs entries new
    → Run old.port entries new.port

-- the free licences and those of the port's units are as many after a run from a sound port as before
abbrev pub KeepsLicences : Type 0
KeepsLicences =
    (old new : FibreWorld) (inputs : List FibreInput) (entries : List Entry)
    → IsSound old.port
    → FibreRun old inputs entries new
    → new.free + rows_of new.port ≡ old.free + rows_of old.port

-- in every world that is reached each unit was sent what it has: in O4, O5 and O6 Assign_ONU-ID of its ONU-ID to its
-- serial number, in O5 and O6 its equalization delay in a Ranging_Time to its ONU-ID, and in O7 Disable_Serial_Number
-- of its serial number
abbrev pub UnitsAreTold : Type 0
UnitsAreTold =
    (config : PortConfig) (licences : ℕ) (plans : List UnitPlan) (world : FibreWorld)
    → IsReachedWorld config licences plans world
    → All (IsToldUnit world.copies) world.units

-- in every world that is reached, of the copies sent and after them those owed: where an ONU-ID is assigned to a serial
-- number, the row of that serial number has it, or a message after that takes it
abbrev pub AssignedStayOrAreTold : Type 0
AssignedStayOrAreTold =
    (config : PortConfig) (licences : ℕ) (plans : List UnitPlan) (world : FibreWorld) (earlier later : List Down)
    (serial : Serial) (onu : ℕ)
    → IsReachedWorld config licences plans world
    → sent_and_owed world ≡ earlier ++ AssignOnu onu serial ∷ later
    → HasOnuId world.port.rows serial onu ⊎ TakesOnuId later serial onu

-- in every world that is reached, a unit that has an ONU-ID has it by the table too, or a message that takes it was
-- sent or is owed
abbrev pub UnitsHaveOrLose : Type 0
UnitsHaveOrLose =
    (config : PortConfig) (licences : ℕ) (plans : List UnitPlan) (world : FibreWorld) (unit : FibreUnit) (onu : ℕ)
    → IsReachedWorld config licences plans world
    → Contains world.units unit
    → onu_id_of unit.state.stage ≡ Some onu
    → HasOnuId world.port.rows unit.state.serial onu ⊎ TakesOnuId (sent_and_owed world) unit.state.serial onu

-- in every world that is reached, of two serial numbers at most one has an ONU-ID by the table
abbrev pub OneHasIt : Type 0
OneHasIt =
    (config : PortConfig) (licences : ℕ) (plans : List UnitPlan) (world : FibreWorld) (serial other : Serial) (onu : ℕ)
    → IsReachedWorld config licences plans world
    → serial ≢ other
    → HasOnuId world.port.rows serial onu
    → HasOnuId world.port.rows other onu
    → ⊥

-- the frames of a run are a run of the fibre, by some list of inputs, with these entries
abbrev pub FramesAreRuns : Type 0
FramesAreRuns =
    (lost_copies lost_bursts : List ℕ) (count : ℕ) (old new : WorldState) (entries : List Entry)
    → FramesRun lost_copies lost_bursts count old entries new
    → (inputs : List FibreInput) × FibreRun old.fibre inputs entries new.fibre

-- so many frames, and then more from where they end
abbrev pub FramesRunTwice : List ℕ → List ℕ → ℕ → ℕ → WorldState → List Entry → WorldState → Type 0
FramesRunTwice lost_copies lost_bursts count more old entries new =
    (mid : WorldState) × (first : List Entry) × (rest : List Entry)
    × FramesRun lost_copies lost_bursts count old first mid × FramesRun lost_copies lost_bursts more mid rest new
    × (entries ≡ first ++ rest)

-- so many frames, and then more, are the first of them, and from where those end the others
abbrev pub FramesRunInParts : Type 0
FramesRunInParts =
    (lost_copies lost_bursts : List ℕ) (count more : ℕ) (old new : WorldState) (entries : List Entry)
    → FramesRun lost_copies lost_bursts (count + more) old entries new
    ↔ FramesRunTwice lost_copies lost_bursts count more old entries new
