-- How timers are kept (this profile's own rule): near ones in slots, each of one frame, and all others in a tournament.
-- No statement of another crate cites it.
-- Inside: no public contract cites this.
use Rattle.std.specs.Prelude.{ℕ, suc, ◌+◌, ◌%◌, ◌≡◌, ◌≢◌, ◌<◌, ◌≤◌, ◌==◌, Bool, true, false, List, [], ◌∷◌, length, slice_index_or, Option, None, Some}
use Rattle.std.specs.FinSet as set
use Rattle.std.specs.FinMap.{empty, insert}
use Rattle.gp_timers.specs.declared.queue.Place.{Place}
use Rattle.gp_timers.specs.declared.queue.Place.TheVariants.{Unset, Near, Far}
use Rattle.gp_timers.specs.declared.queue.Queue.{Queue}
use Rattle.gp_timers.specs.declared.tournament.Timer.{Timer}
use Rattle.gp_timers.specs.Timers.{DueFrames, Timers}
use Rattle.gp_timers.specs.Names.{NamesIn}
use Rattle.gp_timers.specs.Tournament.{IsTournament, timer_at}

-- the frame of the timer at a place
abbrev pub frame_at : Place → Option ℕ
frame_at Unset = None
frame_at (Near frame) = Some frame
frame_at (Far frame) = Some frame

-- the place of a name
abbrev pub place_of : List Place → ℕ → Place
place_of places name = slice_index_or places name Unset

-- the map with a frame for a name, where there is one
abbrev pub with_frame : DueFrames → ℕ → Option ℕ → DueFrames
with_frame frames name None = frames
with_frame frames name (Some frame) = insert frames name frame

-- the frames at these places, whose names count from this one
abbrev pub frames_from : ℕ → List Place → DueFrames
frames_from name [] = empty
frames_from name (place ∷ places) = with_frame (frames_from (suc name) places) name (frame_at place)

-- the timers that a wheel stands for
abbrev pub timers_at : List Place → Timers
timers_at places = record { names = length places; frames = frames_from 0 places }

-- the timer that the tournament has for a place
abbrev pub far_timer : ℕ → Place → Option Timer
far_timer name Unset = None
far_timer name (Near frame) = None
far_timer name (Far frame) = Some (record { frame = frame; name = name })

-- the place is in this slot
abbrev pub is_in_slot : ℕ → Place → Bool
is_in_slot slot Unset = false
is_in_slot slot (Near frame) = frame % 8 == slot
is_in_slot slot (Far frame) = false

-- a near place is for one of the eight frames from `base` on
abbrev pub IsInWindow : ℕ → Place → Type 0
IsInWindow base Unset = Unit {0}
IsInWindow base (Near frame) = (base ≤ frame) × (frame < base + 8)
IsInWindow base (Far frame) = Unit {0}

-- the place that is left once the timer is no longer near
abbrev pub unless_near : Place → Place
unless_near Unset = Unset
unless_near (Near frame) = Unset
unless_near (Far frame) = Far frame

-- the names in a slot
abbrev pub slot_of : List NamesIn → ℕ → NamesIn
slot_of near slot = slice_index_or near slot (record { room = 0; members = set.empty })

-- each name is in the slot or in the leaf that its place tells, and in no other
pub record IsQueue (base : ℕ) (places : List Place) (near : List NamesIn) (far : List (Option Timer)) : Type 0 where
  pub slots : length near ≡ 8
  pub room : (slot : ℕ) → slot < 8 → length places ≤ (slot_of near slot).room
  pub tournament : IsTournament (length places) far
  pub leaf : (name : ℕ) → name < length places
      → timer_at far (length places + name) ≡ far_timer name (place_of places name)
  pub member : (slot name : ℕ) → slot < 8
      → set.contains (slot_of near slot).members name ≡ is_in_slot slot (place_of places name)
  pub window : (name : ℕ) → IsInWindow base (place_of places name)

abbrev pub IsInOrder : Queue → Type 0
IsInOrder queue = IsQueue queue.base queue.places.items queue.near.items queue.far.items

-- one name is at another place
pub record IsMoved (old new : List Place) (name : ℕ) (place : Place) : Type 0 where
  pub size : length new ≡ length old
  pub here : place_of new name ≡ place
  pub others : (other : ℕ) → other ≢ name → place_of new other ≡ place_of old other

-- each near timer is due after this frame
abbrev pub NearAreAfter : List Place → ℕ → Type 0
NearAreAfter places frame = (name at : ℕ) → place_of places name ≡ Near at → frame < at

-- the earliest near timers are due in this frame
pub record IsFirstNear (queue : Queue) (frame : ℕ) : Type 0 where
  pub from : queue.base ≤ frame
  pub first : (name at : ℕ) → place_of queue.places.items name ≡ Near at → frame ≤ at
  pub some : (name : ℕ) × (set.contains (slot_of queue.near.items (frame % 8)).members name ≡ true)

-- the slot of frame `base` has no names
abbrev pub IsBaseEmpty : Queue → Type 0
IsBaseEmpty queue = (name : ℕ) → set.contains (slot_of queue.near.items (queue.base % 8)).members name ≡ false

-- if a near timer is due by this frame, the earliest of them are due in frame `base`
abbrev pub IsReached : Queue → ℕ → Type 0
IsReached queue frame = IsBaseEmpty queue → NearAreAfter queue.places.items frame
