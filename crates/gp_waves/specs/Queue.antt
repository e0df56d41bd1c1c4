-- The changes of a port that are held back (this profile's own rule).
use Rattle.std.specs.Prelude.{◌≡◌, ◌+◌, ℕ, true, List, [], ◌∷◌, ◌++◌, Option, None, Some, is_some, max}
use Rattle.std.specs.List.{All}
use Rattle.gp_dump.specs.Dump.{has_lane}
use Rattle.gp_waves.specs.declared.held.HeldChange.{HeldChange}
use Rattle.gp_waves.specs.declared.held.What.{What}
use Rattle.gp_waves.specs.declared.held.What.TheVariants as what

-- the most lanes that a port has
abbrev pub most_lanes : ℕ
most_lanes = 256

-- the changes, the first to come first, and how many lanes have to be declared for all that were ever held back, if any
-- was
pub record QueueState : Type 0 where
  pub changes : List HeldChange
  pub lanes : Option ℕ

-- nothing is held back
abbrev pub no_queue : QueueState
no_queue = record { changes = []; lanes = None }

-- how many lanes a port has at least that has the variable of a change
abbrev pub lanes_for : What → ℕ
lanes_for (what.OfPort to) = 0
lanes_for (what.OfUnit lane to) = lane + 1

-- the lanes of a port that has those of both
abbrev pub wider : Option ℕ → Option ℕ → Option ℕ
wider None second = second
wider (Some first) None = Some first
wider (Some first) (Some second) = Some (max first second)

-- a change is held back, behind the others
abbrev pub queued : HeldChange → QueueState → QueueState
queued held queue =
    record {
      changes = queue.changes ++ held ∷ [];
      lanes = wider queue.lanes (Some (lanes_for held.what));
    }

-- when the first of some changes is due
abbrev pub time_of_first : List HeldChange → Option ℕ
time_of_first [] = None
time_of_first (held ∷ rest) = Some held.time

-- a change has its variable at a port of so many lanes, if that is declared
abbrev pub fits : Option ℕ → What → Type 0
fits lanes (what.OfPort to) = is_some lanes ≡ true
fits lanes (what.OfUnit lane to) = has_lane lane lanes ≡ true

-- each of these changes has its variable at a port of so many lanes, and there are no more than a port may have
abbrev pub AreHeld : Option ℕ → List HeldChange → Type 0
AreHeld lanes changes = All (λ (held : HeldChange). fits lanes held.what × fits (Some most_lanes) held.what) changes
