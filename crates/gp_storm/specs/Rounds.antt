-- What the rounds of a storm leave, one after another (this profile's own rule). After each of them the journals are
-- cut, so what a storm keeps doesn't grow with its plan.
-- Inside: no public contract cites this.
use Rattle.std.specs.Prelude.{◌≡◌, ◌+◌, ℕ, nat_le, Bool, true, false, List, [], ◌∷◌, Option, None, Some, map, length, sum_by}
use Rattle.gp_machine.specs.declared.config.PortConfig.{PortConfig}
use Rattle.gp_machine.specs.declared.entry.Entry.{Entry}
use Rattle.gp_machine.specs.State.{PortState, rows_of}
use Rattle.gp_journal.specs.declared.piece.Piece.{Piece}
use Rattle.gp_journal.specs.Kept.{Kept}
use Rattle.gp_journal.specs.Replays.{Replays}
use Rattle.gp_workers.specs.declared.totals.Totals.{Totals}
use Rattle.gp_workers.specs.Closing.{Ending}
use Rattle.gp_workers.specs.Totals.{AreTotals}

-- ---- what is told so far

-- the entries of each port are a run of its configuration, from its opening to where it stands
abbrev pub AreRunsFrom : List PortConfig → List (List Entry) → List PortState → Type 0
AreRunsFrom [] [] [] = Unit {0}
AreRunsFrom (config ∷ configs) (entries ∷ histories) (end ∷ ends) =
    Replays config None entries end × AreRunsFrom configs histories ends
AreRunsFrom _ _ _ = ⊥

-- the ports stand here, each has a run behind it from its opening, and the totals count the entries of all these runs
-- and the units that are active now
pub record IsSoFar (configs : List PortConfig) (ends : List PortState) (totals : Totals) : Type 0 where
  pub histories : List (List Entry)
  pub runs : AreRunsFrom configs histories ends
  pub counted : AreTotals totals histories (sum_by rows_of ends)

-- there are journals with runs of these configurations of which these are the totals
pub record IsEnding (configs : List PortConfig) (totals : Totals) : Type 0 where
  pub journals : List Kept
  pub ending : Ending configs journals totals

-- ---- how a round goes on

-- nothing was before
abbrev pub is_opening : Option PortState → Bool
is_opening None = true
is_opening (Some from) = false

-- the piece begins at the opening of its port
abbrev pub begins_port : Piece → Bool
begins_port piece = is_opening piece.from

-- each piece begins where its port stood
abbrev pub GoOn : List PortState → List Piece → Type 0
GoOn [] [] = Unit {0}
GoOn (end ∷ ends) (piece ∷ pieces) = (piece.from ≡ Some end) × GoOn ends pieces
GoOn _ _ = ⊥

-- the port had so many entries at most, from its opening to the end of the piece
abbrev pub keeps_at_most : ℕ → Piece → Bool
keeps_at_most most piece = nat_le (piece.first + length piece.entries) most

-- where the ports stand behind their pieces
abbrev pub ends_of : List Piece → List PortState
ends_of pieces = map (λ (piece : Piece). piece.to) pieces

-- each count is the sum of both, and the units are those of the latter
pub record AddUp (before later all : Totals) : Type 0 where
  pub frames : all.frames ≡ before.frames + later.frames
  pub bursts : all.bursts ≡ before.bursts + later.bursts
  pub commands : all.commands ≡ before.commands + later.commands
  pub los : all.los ≡ before.los + later.los
  pub loam : all.loam ≡ before.loam + later.loam
  pub loa : all.loa ≡ before.loa + later.loa
  pub suf : all.suf ≡ before.suf + later.suf
  pub df : all.df ≡ before.df + later.df
  pub dg : all.dg ≡ before.dg + later.dg
  pub units : all.units ≡ later.units
