-- Pieces that follow one another are one run.
use Rattle.std.proofs.Common.{◌≡◌, ◌+◌, ℕ, List, [], ◌∷◌, ◌++◌, length, sym, ap, subst, arith, append_assoc, length-append}
use Rattle.std.specs.Prelude.{Option, None, Some}
use Rattle.gp_machine.specs.declared.config.PortConfig.{PortConfig}
use Rattle.gp_machine.specs.declared.entry.Entry.{Entry}
use Rattle.gp_machine.specs.State.{PortState}
use Rattle.gp_journal.specs.declared.piece.Piece.{Piece}
use Rattle.gp_journal.specs.Replays.{Replays}
use Rattle.gp_journal.specs.Piece.{Follows, FollowOn, AreRunsOfPieces, IsRunOfPiece, all_entries, PiecesAreOneRun}
use Rattle.gp_journal.proofs.Runs.{Replays-append}

-- what follows a piece begins in the state in which it ends, and with the number after its last
follows_state : (piece : Piece) (first : ℕ) (from : Option PortState) → Follows piece first from → from ≡ Some piece.to
follows_state piece first None h = absurd h
follows_state piece first (Some from) h = ap (λ (port : PortState). Some port) (sym h.state)

follows_number : (piece : Piece) (first : ℕ) (from : Option PortState) → Follows piece first from → piece.first + length piece.entries ≡ first
follows_number piece first None h = absurd h
follows_number piece first (Some from) h = h.number

-- a piece, and the run that begins where it ends
grown : (config : PortConfig) (piece : Piece) (later entries : List Entry) (last : PortState) → IsRunOfPiece config piece → Replays config (Some piece.to) (later ++ entries) last
    → Replays config piece.from ((piece.entries ++ later) ++ entries) last
grown config piece later entries last run rest =
    subst (λ (w : List Entry). Replays config piece.from w last) (sym (append_assoc piece.entries later entries))
    (Replays-append config piece.from piece.to last piece.entries (later ++ entries) run rest)

joined_run : (config : PortConfig) (piece : Piece) (pieces : List Piece) (first : ℕ) (base : Option PortState) (entries : List Entry) (last : PortState)
    → FollowOn piece pieces first base → AreRunsOfPieces config (piece ∷ pieces) → Replays config base entries last
    → Replays config piece.from (all_entries (piece ∷ pieces) ++ entries) last
joined_run config piece [] first base entries last j runs h =
    grown config piece [] entries last runs.0 (subst (λ (w : Option PortState). Replays config w entries last) (follows_state piece first base j) h)
joined_run config piece (next ∷ pieces) first base entries last j runs h =
    let rest : Replays config next.from (all_entries (next ∷ pieces) ++ entries) last = joined_run config next pieces first base entries last j.1 runs.1 h in
    grown config piece (all_entries (next ∷ pieces)) entries last runs.0
    (subst (λ (w : Option PortState). Replays config w (all_entries (next ∷ pieces) ++ entries) last) (follows_state piece next.first next.from j.0) rest)

joined_count : (piece : Piece) (pieces : List Piece) (first : ℕ) (base : Option PortState) → FollowOn piece pieces first base → piece.first + length (all_entries (piece ∷ pieces)) ≡ first
joined_count piece [] first base j = let end = follows_number piece first base j in omega (arith, end, length-append piece.entries [])
joined_count piece (next ∷ pieces) first base j =
    let rest = joined_count next pieces first base j.1 in
    let end = follows_number piece next.first next.from j.0 in
    omega (arith, rest, end, length-append piece.entries (all_entries (next ∷ pieces)))

pub pieces_one_run : PiecesAreOneRun
pieces_one_run config [] first base entries last j runs h =
    (subst (λ (w : Option PortState). Replays config w entries last) j.1 h, sym j.0)
pieces_one_run config (piece ∷ pieces) first base entries last j runs h =
    let count = joined_count piece pieces first base j.2 in
    let begins = j.0 in
    let run = joined_run config piece pieces first base entries last j.2 runs h in
    (subst (λ (w : Option PortState). Replays config w (all_entries (piece ∷ pieces) ++ entries) last) j.1 run, omega (arith, count, begins))
