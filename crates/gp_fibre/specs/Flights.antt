-- The bursts that are to come, and the flags that tell in which frames they may (this profile's own rule).
-- Inside: no public contract cites this.
use Rattle.std.specs.Prelude.{ℕ, ◌+◌, ◌%◌, ◌<◌, ◌≤◌, ◌≡◌, Bool, false, true, List, All, length, slice_index_or}
use Rattle.gp_fibre.specs.declared.flight.Flight.{Flight}
use Rattle.gp_fibre.specs.World.{FibreWorld}

-- what contracts see: the bursts, and for how many further ones there is room
pub record FlightsState : Type 0 where
  pub flights : List Flight
  pub room : ℕ

-- in how many frames a burst may come: in the one in which it is answered, or one of the four after that
abbrev pub frames_in_reach : ℕ
frames_in_reach = 5

-- each comes in this frame or one of the four after it
abbrev pub AreInReach : ℕ → List Flight → Type 0
AreInReach frame flights = All (λ f. (frame ≤ f.due) × (f.due < frame + frames_in_reach)) flights

-- each comes less than five frames before or after this one
abbrev pub AreNear : ℕ → List Flight → Type 0
AreNear due flights = All (λ f. (f.due < due + frames_in_reach) × (due < f.due + frames_in_reach)) flights

-- each was answered, and was not forgotten
pub record AreKept (world : FibreWorld) (flights : List Flight) : Type 0 where
  pub within : world.forgotten.bursts ≤ length world.bursts
  pub each : All (λ f. (world.forgotten.bursts ≤ f.number) × (f.number < length world.bursts)) flights

-- ---- the representation

-- the flag of the burst's frame is set
abbrev pub HasFlag : List Bool → Flight → Type 0
HasFlag coming flight = slice_index_or coming (flight.due % frames_in_reach) false ≡ true

-- there is a flag for each remainder by five, and that of each burst's frame is set
pub record AreFlagged (flights : List Flight) (coming : List Bool) : Type 0 where
  pub count : length coming ≡ frames_in_reach
  pub each : All (HasFlag coming) flights
