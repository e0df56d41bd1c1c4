-- Who holds which numbers (G.984.3, clauses 9 and 10; that a disabled serial number holds none, and which further
-- Alloc-IDs there are, is this profile's own rule).
use Rattle.std.specs.Prelude.{◌≡◌, ℕ, ◌⊎◌, true}
use Rattle.std.specs.FinSet.{contains}
use Rattle.gp_ploam.specs.declared.message.Serial.{Serial}
use Rattle.gp_unit.specs.declared.row.Row.{Row}
use Rattle.gp_unit.specs.Rows.{has_alloc}
use Rattle.gp_machine.specs.declared.config.PortConfig.{PortConfig}
use Rattle.gp_machine.specs.State.{PortState, Rows, HasRow}
use Rattle.gp_machine.specs.Run.{IsReached}

-- the unit with this serial number is active, and holds this ONU-ID
abbrev pub HasOnuId : Rows → Serial → ℕ → Type 0
HasOnuId rows serial onu = (row : Row) × HasRow rows serial row × (row.onu ≡ onu)

-- it is active, and holds this Alloc-ID: its ONU-ID, which is its default Alloc-ID, or a further one, held or leaving
abbrev pub HasAllocId : Rows → Serial → ℕ → Type 0
HasAllocId rows serial alloc = (row : Row) × HasRow rows serial row × ((row.onu ≡ alloc) ⊎ (has_alloc alloc row ≡ true))

-- in every state that a run from an opening reaches, no two active units hold one ONU-ID
abbrev pub NoSharedOnuId : Type 0
NoSharedOnuId =
    (config : PortConfig) (port : PortState) (serial other : Serial) (onu : ℕ)
    → IsReached config port
    → HasOnuId port.rows serial onu
    → HasOnuId port.rows other onu
    → serial ≡ other

-- and no two hold one Alloc-ID, default ones included
abbrev pub NoSharedAllocId : Type 0
NoSharedAllocId =
    (config : PortConfig) (port : PortState) (serial other : Serial) (alloc : ℕ)
    → IsReached config port
    → HasAllocId port.rows serial alloc
    → HasAllocId port.rows other alloc
    → serial ≡ other

-- and a disabled serial number holds no ONU-ID
abbrev pub DisabledHoldsNoOnuId : Type 0
DisabledHoldsNoOnuId =
    (config : PortConfig) (port : PortState) (serial : Serial) (onu : ℕ)
    → IsReached config port
    → contains port.disabled serial ≡ true
    → HasOnuId port.rows serial onu
    → ⊥

-- and no Alloc-ID
abbrev pub DisabledHoldsNoAllocId : Type 0
DisabledHoldsNoAllocId =
    (config : PortConfig) (port : PortState) (serial : Serial) (alloc : ℕ)
    → IsReached config port
    → contains port.disabled serial ≡ true
    → HasAllocId port.rows serial alloc
    → ⊥
