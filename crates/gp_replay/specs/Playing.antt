-- What events are played on, and what playing several means (this profile's own rule).
use Rattle.std.specs.Prelude.{◌≡◌, ◌↔◌, ◌⊎◌, ℕ, ◌+◌, ◌≤◌, Bool, IsTrue, List, [], ◌∷◌, ◌++◌, Option, None, Some, length, map}
use Rattle.gp_ranging.specs.declared.grant.Grant.{Grant}
use Rattle.gp_machine.specs.declared.entry.Entry.{Entry}
use Rattle.gp_machine.specs.declared.entry.Receipt.{Receipt}
use Rattle.gp_onu.specs.declared.status.UnitStatus.{UnitStatus}
use Rattle.gp_fibre.specs.World.{status_at}
use Rattle.gp_script.specs.declared.script.ScriptEvent.{ScriptEvent}
use Rattle.gp_script.specs.declared.script.ScriptEvent.TheVariants as events
use Rattle.gp_script.specs.Lose.{LossesView}
use Rattle.gp_replay.specs.Chassis.{HasRoom, PlayState}
use Rattle.gp_replay.specs.Play.{TakesAllTurns, TakesSomeTurns, turns_of}
use Rattle.gp_replay.specs.WorldPlay.{WorldTakes}
use Rattle.gp_replay.specs.WorldWriting.{FibrePlay, HasFibreRoom, Numbered, WorldTakesPart}
use Rattle.gp_replay.specs.Writing.{Happening}

-- what a player is to those that play events on it
pub record Playing (S : Type 0) : Type 1 where
  -- how many ports it has
  pub ports : S → ℕ
  -- how many simulated units
  pub units : S → ℕ
  -- what the simulated unit at a place is, if there is one
  pub status : S → ℕ → Option UnitStatus
  -- an event is played
  pub whole : ScriptEvent → Happening S
  -- an event is played in part, or not at all, since a fault came
  pub part : ScriptEvent → Happening S
  -- so many more frames and other events can be counted, and their entries numbered
  pub room : ℕ → S → Type 0
  -- memory may be refused while it plays
  pub refuses : Type 0

-- how many frames an event is, or that it is one other thing that happens
abbrev pub count_of : ScriptEvent → ℕ
count_of (events.Frames port count) = count
count_of (events.Burst port at bytes) = 1
count_of (events.Command port command) = 1
count_of (events.Light unit lit) = 1

-- there is room for so many, or for more
abbrev pub HasRoomFor : {S : Type 0} → Playing S → ℕ → S → Type 0
HasRoomFor playing count state = (many : ℕ) × (count ≤ many) × playing.room many state

-- the ports and units stay, and no more than so much room is taken
pub record Keeps {S : Type 0} (playing : Playing S) (count : ℕ) (old new : S) : Type 0 where
  pub ports : playing.ports new ≡ playing.ports old
  pub units : playing.units new ≡ playing.units old
  pub room : (more : ℕ) → HasRoomFor playing (count + more) old → HasRoomFor playing more new

-- the events are played one after the other
abbrev pub PlaysAll : {S : Type 0} → Playing S → List ScriptEvent → Happening S
PlaysAll playing [] old receipts new = (new ≡ old) × (receipts ≡ [])
PlaysAll playing (event ∷ more) old receipts new =
    (mid : _) × (first : List Receipt) × (rest : List Receipt)
    × playing.whole event old first mid × PlaysAll playing more mid rest new × (receipts ≡ first ++ rest)

-- some of the events are played, from the first on, and the next one maybe in part
abbrev pub PlaysSome : {S : Type 0} → Playing S → List ScriptEvent → Happening S
PlaysSome playing [] old receipts new = (new ≡ old) × (receipts ≡ [])
PlaysSome playing (event ∷ more) old receipts new =
    playing.part event old receipts new
    ⊎ ((mid : _) × (first : List Receipt) × (rest : List Receipt)
    × playing.whole event old first mid × PlaysSome playing more mid rest new × (receipts ≡ first ++ rest))

-- this happens, and these are its entries
abbrev pub TellsEntries : {S : Type 0} → List Entry → Happening S → Happening S
TellsEntries entries happens old receipts new =
    happens old receipts new × (map (λ receipt. receipt.entry) receipts ≡ entries)

-- one of these entries makes the grant
abbrev pub HasGrant : Grant → List Entry → Type 0
HasGrant grant [] = ⊥
HasGrant grant (entry ∷ entries) = (entry.answer.grant ≡ Some grant) ⊎ HasGrant grant entries

-- this happens, and it is told whether the grant is made in it
pub record MakesGrant {S : Type 0} (grant : Grant) (made : Bool) (happens : Happening S) (old : S)
    (receipts : List Receipt) (new : S) : Type 0 where
  pub happened : happens old receipts new
  pub told : IsTrue made ↔ HasGrant grant (map (λ receipt. receipt.entry) receipts)

-- ---- the two players

-- a chassis, which has no simulated units, and whose play takes no memory
abbrev pub chassis_playing : Playing PlayState
chassis_playing = record {
  ports = λ play. length play.next;
  units = λ play. 0;
  status = λ play unit. None;
  whole = λ event. TakesAllTurns (turns_of event);
  part = λ event. TakesSomeTurns (turns_of event);
  room = HasRoom;
  refuses = ⊥;
}

-- the play of a fibre on whose way some copies and bursts are lost
pub record LossyPlay : Type 0 where
  pub play : FibrePlay
  pub losses : LossesView

-- this happens to the fibre, and what is lost stays
pub record Loses (happens : LossesView → Happening FibrePlay) (old : LossyPlay) (receipts : List Receipt)
    (new : LossyPlay) : Type 0 where
  pub happened : happens old.losses old.play receipts new.play
  pub losses : new.losses ≡ old.losses

-- the fibre of one port, with simulated units, whose play takes memory for entries
abbrev pub fibre_playing : Playing LossyPlay
fibre_playing = record {
  ports = λ lossy. 1;
  units = λ lossy. length lossy.play.world.fibre.units;
  status = λ lossy unit. status_at lossy.play.world.fibre.units unit;
  whole = λ event. Loses (λ losses. Numbered (WorldTakes losses event));
  part = λ event. Loses (λ losses. Numbered (WorldTakesPart losses event));
  room = λ count lossy. HasFibreRoom count lossy.play;
  refuses = Unit {0};
}
