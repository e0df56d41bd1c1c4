-- What a chassis with threads leaves when it is closed or cut (this profile's own rule).
use Rattle.std.specs.Prelude.{ℕ, ◌≡◌, ◌+◌, List, [], ◌∷◌, map, sum_by}
use Rattle.std.specs.List.{AllZip}
use Rattle.gp_machine.specs.declared.config.PortConfig.{PortConfig}
use Rattle.gp_machine.specs.declared.entry.Receipt.{Receipt}
use Rattle.gp_machine.specs.State.{PortState, rows_of}
use Rattle.gp_journal.specs.Kept.{Kept}
use Rattle.gp_journal.specs.Replays.{Replays}
use Rattle.gp_journal.specs.declared.piece.Piece.{Piece}
use Rattle.gp_journal.specs.Piece.{IsRunOfPiece}
use Rattle.gp_accounts.specs.Accounted.{Accounted}
use Rattle.gp_chassis.specs.Desk.{DeskState, DeskStands, history_of_desk, piece_of}
use Rattle.gp_workers.specs.Chassis.{ChassisState, WorkerState}
use Rattle.gp_workers.specs.declared.totals.Totals.{Totals}
use Rattle.gp_workers.specs.Totals.{AreTotals}

-- ---- what is left

-- each journal is a run of its port's configuration from the journal's base to the port's end
abbrev pub AreRunsTo : List PortConfig → List Kept → List PortState → Type 0
AreRunsTo [] [] [] = Unit {0}
AreRunsTo (config ∷ configs) (journal ∷ journals) (end ∷ ends) =
    Replays config journal.base journal.entries end × AreRunsTo configs journals ends
AreRunsTo _ _ _ = ⊥

-- the journals are runs of the configurations, and the totals count their entries and the units that are active at
-- their ends
pub record Ending (configs : List PortConfig) (journals : List Kept) (totals : Totals) : Type 0 where
  pub ends : List PortState
  pub runs : AreRunsTo configs journals ends
  pub counted : AreTotals totals (map (λ (journal : Kept). journal.entries) journals) (sum_by rows_of ends)

-- the pieces are runs of the configurations, and the totals count their entries and the units that are active at
-- their ends
pub record CutEnding (configs : List PortConfig) (pieces : List Piece) (totals : Totals) : Type 0 where
  pub runs : AllZip IsRunOfPiece configs pieces
  pub counted : AreTotals totals (map (λ (piece : Piece). piece.entries) pieces)
      (sum_by (λ (piece : Piece). rows_of piece.to) pieces)

-- ---- how it comes from the desks

-- how many units are active on the desk's port
abbrev pub desk_rows : DeskState → ℕ
desk_rows desk = rows_of desk.state

-- a chassis with these configurations and so many licences
abbrev pub chassis_of : List PortConfig → ℕ → ChassisState
chassis_of configs licences = record { configs = configs; licences = licences }

-- the receipts of each worker
abbrev pub receipts_of : List WorkerState → List (List Receipt)
receipts_of workers = map (λ (worker : WorkerState). worker.receipts) workers

-- the workers' receipts tell of the desks' entries, each desk has the configuration of its port, and the licences
-- that are free and those of the active units are all that there are
pub record AddsUp
    (chassis : ChassisState) (desks : List DeskState) (free : ℕ) (workers : List WorkerState) : Type 0 where
  pub accounted : Accounted (map history_of_desk desks) (receipts_of workers)
  pub configured : map (λ (desk : DeskState). desk.state.config) desks ≡ chassis.configs
  pub balance : free + sum_by desk_rows desks ≡ chassis.licences

-- the journal is what the desk kept
pub record IsJournalOf (desk : DeskState) (journal : Kept) : Type 0 where
  pub first : journal.first ≡ desk.first
  pub base : journal.base ≡ desk.base
  pub entries : journal.entries ≡ desk.entries
  pub stands : DeskStands desk

-- the journals are what the desks kept, in order
abbrev pub AreJournalsOf : List DeskState → List Kept → Type 0
AreJournalsOf desks journals = AllZip IsJournalOf desks journals

-- the piece is what the desk kept
pub record IsPieceOf (desk : DeskState) (piece : Piece) : Type 0 where
  pub is : piece ≡ piece_of desk
  pub stands : DeskStands desk

-- the pieces are what the desks kept, in order
abbrev pub ArePiecesOf : List DeskState → List Piece → Type 0
ArePiecesOf desks pieces = AllZip IsPieceOf desks pieces
