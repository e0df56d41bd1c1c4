-- Pieces that are cut from the journal of one port, and when they are one run (this profile's own rule).
use Rattle.std.specs.Prelude.{ℕ, ◌≡◌, ◌+◌, List, [], ◌∷◌, ◌++◌, Option, None, Some, length}
use Rattle.gp_machine.specs.declared.config.PortConfig.{PortConfig}
use Rattle.gp_machine.specs.declared.entry.Entry.{Entry}
use Rattle.gp_machine.specs.State.{PortState}
use Rattle.gp_journal.specs.declared.piece.Piece.{Piece}
use Rattle.gp_journal.specs.Kept.{History}
use Rattle.gp_journal.specs.Replays.{Replays}

-- the entries of a piece, with their numbers
abbrev pub history_of_piece : Piece → History
history_of_piece piece = record { first = piece.first; entries = piece.entries }

-- what follows the piece begins with the number and in the state in which the piece ends
pub record Joins (piece : Piece) (first : ℕ) (from : PortState) : Type 0 where
  pub number : piece.first + length piece.entries ≡ first
  pub state : piece.to ≡ from

-- the entries of the piece are a run of this configuration, from its first state to its last
abbrev pub IsRunOfPiece : PortConfig → Piece → Type 0
IsRunOfPiece config piece = Replays config piece.from piece.entries piece.to

-- what begins with this number and after this state follows the piece; what begins at the opening of a port follows
-- none
abbrev pub Follows : Piece → ℕ → Option PortState → Type 0
Follows piece first None = ⊥
Follows piece first (Some from) = Joins piece first from

-- each of the pieces follows the one before it, and what begins with this number and after this state the last one
abbrev pub FollowOn : Piece → List Piece → ℕ → Option PortState → Type 0
FollowOn piece [] first from = Follows piece first from
FollowOn piece (next ∷ pieces) first from = Follows piece next.first next.from × FollowOn next pieces first from

-- the first piece begins at the opening of a port, each of the others follows the one before it, and what begins with
-- this number and after this state the last one; where there are no pieces it begins at the opening itself
abbrev pub JoinUp : List Piece → ℕ → Option PortState → Type 0
JoinUp [] first from = (first ≡ 0) × (from ≡ None)
JoinUp (piece ∷ pieces) first from = (piece.first ≡ 0) × (piece.from ≡ None) × FollowOn piece pieces first from

-- each piece is a run of this configuration
abbrev pub AreRunsOfPieces : PortConfig → List Piece → Type 0
AreRunsOfPieces config [] = Unit {0}
AreRunsOfPieces config (piece ∷ pieces) = IsRunOfPiece config piece × AreRunsOfPieces config pieces

-- the entries of all pieces, in order
abbrev pub all_entries : List Piece → List Entry
all_entries [] = []
all_entries (piece ∷ pieces) = piece.entries ++ all_entries pieces

-- pieces that follow one another from the opening of a port up to where a journal begins are, with the entries that
-- the journal keeps, one run from the opening, and the journal's first number counts their entries
abbrev pub PiecesAreOneRun : Type 0
PiecesAreOneRun =
    (config : PortConfig) (pieces : List Piece) (first : ℕ) (base : Option PortState) (entries : List Entry)
    (last : PortState)
    → JoinUp pieces first base → AreRunsOfPieces config pieces → Replays config base entries last
    → Replays config None (all_entries pieces ++ entries) last × (length (all_entries pieces) ≡ first)
