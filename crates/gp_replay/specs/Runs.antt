-- The entries of several ports as a run of each (this profile's own rule).
use Rattle.std.specs.Prelude.{◌≡◌, ℕ, ◌+◌, ◌==◌, List, [], ◌∷◌, Some, filter, map, slice_get}
use Rattle.gp_machine.specs.declared.config.PortConfig.{PortConfig}
use Rattle.gp_machine.specs.declared.entry.Entry.{Entry}
use Rattle.gp_machine.specs.declared.entry.Receipt.{Receipt}
use Rattle.gp_machine.specs.State.{PortState, opening_of}
use Rattle.gp_machine.specs.Run.{Run}

-- the receipts of one port
abbrev pub receipts_of_port : ℕ → List Receipt → List Receipt
receipts_of_port port receipts = filter (λ r. r.port == port) receipts

-- the entries of one port
abbrev pub entries_of_port : ℕ → List Receipt → List Entry
entries_of_port port receipts = map (λ r. r.entry) (receipts_of_port port receipts)

-- the entries are numbered one after the other, from the number n on
abbrev pub IsNumberedFrom : ℕ → List Receipt → Type 0
IsNumberedFrom n [] = Unit {0}
IsNumberedFrom n (r ∷ rs) = (r.number ≡ n) × IsNumberedFrom (n + 1) rs

-- on each of these ports the entries are a run of the activation machine, from the opening of the port's
-- configuration to the state at its end, and they are numbered from 0
abbrev pub PortsRun : List PortConfig → List Receipt → List PortState → Type 0
PortsRun ports receipts ends =
    (port : ℕ) (config : PortConfig) → slice_get ports port ≡ Some config
    → (end : PortState)
    × (slice_get ends port ≡ Some end)
    × Run (opening_of config) (entries_of_port port receipts) end
    × IsNumberedFrom 0 (receipts_of_port port receipts)
