-- The room in which a frame of a run is played, all of which was made before (this profile's own rule).
-- Inside: no public contract cites this.
use Rattle.std.specs.Prelude.{◌≡◌, ℕ, ◌+◌, ◌≤◌, length, vec_capacity, vec_len}
use Rattle.std.specs.declared.alloc.Global.{Global}
use Rattle.std.specs.declared.vec.Vec.{Vec}
use Rattle.gp_machine.specs.declared.entry.Entry.{Entry}
use Rattle.gp_fibre.specs.Fibre.{FibreStand}
use Rattle.gp_fibre.specs.Flights.{FlightsState}

-- there is room for what so many events of the port may send and grant, and for as many entries
pub record HasEventRoom (events : ℕ) (fibre : FibreStand) (kept : Vec Entry Global) : Type 0 where
  pub copies : events ≤ fibre.copies_room
  pub grants : events ≤ fibre.grants_room
  pub entries : vec_len kept + events ≤ vec_capacity kept

-- there is room for a burst of each unit, and for its flight
pub record HasAnswerRoom (fibre : FibreStand) (coming : FlightsState) : Type 0 where
  pub bursts : length fibre.world.units ≤ fibre.bursts_room
  pub flights : length fibre.world.units ≤ coming.room

-- so many events, or fewer, took their room
pub record TakesEventRoom (events : ℕ) (old new : FibreStand) (before after : Vec Entry Global) : Type 0 where
  pub copies : old.copies_room ≤ new.copies_room + events
  pub grants : old.grants_room ≤ new.grants_room + events
  pub entries : vec_len after ≤ vec_len before + events
  pub capacity : vec_capacity after ≡ vec_capacity before

-- all licences and the frames of the units are as they were
pub record KeepsCounts (old new : FibreStand) : Type 0 where
  pub total : new.total ≡ old.total
  pub frames : new.frames ≡ old.frames
