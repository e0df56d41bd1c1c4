-- Whole runs: their parts, the states that they lead to, and their licences (this profile's own rule).
use Rattle.std.specs.Prelude.{◌≡◌, ◌↔◌, ℕ, ◌+◌, List, [], ◌∷◌, ◌++◌}
use Rattle.std.specs.List.{sum_by}
use Rattle.gp_machine.specs.declared.config.PortConfig.{PortConfig}
use Rattle.gp_machine.specs.declared.entry.Entry.{Entry}
use Rattle.gp_machine.specs.State.{PortState, rows_of}
use Rattle.gp_machine.specs.Sound.{IsSound}
use Rattle.gp_machine.specs.Run.{Run, IsReached}

-- a run of two lists of entries is a run of the first, and from where that ends a run of the second
abbrev pub RunsInParts : Type 0
RunsInParts =
    (port last : PortState) (entries more : List Entry)
    → Run port (entries ++ more) last ↔ ((mid : PortState) × Run port entries mid × Run mid more last)

-- given the state in which a run begins, its entries determine the one in which it ends
abbrev pub RunsEndAlike : Type 0
RunsEndAlike =
    (port last other : PortState) (entries : List Entry) → Run port entries last → Run port entries other → last ≡ other

-- two entries have as many licences handed in, the same event and the same reply
abbrev pub AreAlike : Entry → Entry → Type 0
AreAlike one other =
    (one.purse_in ≡ other.purse_in) × (one.event ≡ other.event) × (one.answer.reply ≡ other.answer.reply)

-- so have the entries of two lists, one by one
abbrev pub AreAllAlike : List Entry → List Entry → Type 0
AreAllAlike [] [] = Unit {0}
AreAllAlike [] (other ∷ others) = ⊥
AreAllAlike (one ∷ entries) [] = ⊥
AreAllAlike (one ∷ entries) (other ∷ others) = AreAlike one other × AreAllAlike entries others

-- the licences handed in, the events and the replies determine all else of a run: what is sent, granted and raised, the
-- licences handed back, and the end
abbrev pub RepliesTellRuns : Type 0
RepliesTellRuns =
    (port last other : PortState) (entries others : List Entry)
    → Run port entries last
    → Run port others other
    → AreAllAlike entries others
    → (entries ≡ others) × (last ≡ other)

-- every state that is reached is sound, so each state on the way of a run from an opening
abbrev pub EveryStateIsSound : Type 0
EveryStateIsSound = (config : PortConfig) (port : PortState) → IsReached config port → IsSound port

-- every state that is reached has the configuration of its opening
abbrev pub KeepsConfiguration : Type 0
KeepsConfiguration = (config : PortConfig) (port : PortState) → IsReached config port → port.config ≡ config

-- the licences that were handed in with the entries
abbrev pub licences_in : List Entry → ℕ
licences_in entries = sum_by (λ entry. entry.purse_in) entries

-- the licences that were handed back with them
abbrev pub licences_out : List Entry → ℕ
licences_out entries = sum_by (λ entry. entry.purse_out) entries

-- a run from a sound state neither makes nor loses a licence: those handed in and those of the units at its start are
-- as many as those handed back and those of the units at its end
abbrev pub RunsKeepLicences : Type 0
RunsKeepLicences =
    (port last : PortState) (entries : List Entry) → IsSound port → Run port entries last
    → licences_in entries + rows_of port ≡ licences_out entries + rows_of last
