-- A chassis on one thread (this profile's own rule).
use Rattle.std.specs.Prelude.{ℕ, ◌≡◌, ◌+◌, ◌<◌, ◌≤◌, ◌↔◌, List, [], ◌∷◌, Option, Some, All, IfSome, OnSome, map, length, slice_set, slice_get, replicate}
use Rattle.std.specs.Option.{ForSome, option_and_then}
use Rattle.gp_ploam.specs.Down.{IsProperDown}
use Rattle.gp_machine.specs.declared.config.PortConfig.{PortConfig}
use Rattle.gp_machine.specs.declared.event.Event.{Event}
use Rattle.gp_machine.specs.declared.event.Event.TheVariants.{Frame, Burst, Command}
use Rattle.gp_machine.specs.declared.entry.Entry.{Entry}
use Rattle.gp_machine.specs.declared.entry.Receipt.{Receipt}
use Rattle.gp_machine.specs.Run.{entry_outcome}
use Rattle.gp_port.specs.Numbers.{GrantsWish, HandsOut}
use Rattle.gp_journal.specs.declared.piece.Piece.{Piece}
use Rattle.gp_chassis.specs.declared.fault.CoreFault.{CoreFault}
use Rattle.gp_chassis.specs.declared.fault.CoreFault.TheVariants.{NoActor, NoPort, JournalFull}
use Rattle.gp_chassis.specs.Desk.{DeskState, DeskStands, HasRoom, opened, Serves, Cuts, last_kept}
use Rattle.gp_chassis.specs.World.{ChassisWorld, ChassisRun, Move, Take, Port, Give, hand, taken, given, IsBalanced, actors}

-- a chassis: its desks, how many licences are free, how many each actor has in hand, and how many there are in all
pub record CoreState : Type 0 where
  pub desks : List DeskState
  pub free : ℕ
  pub hands : List ℕ
  pub licences : ℕ

-- where its ports stand, and where its licences are
abbrev pub world_of : CoreState → ChassisWorld
world_of core =
    record { ports = map (λ (desk : DeskState). desk.state) core.desks; free = core.free; hands = core.hands }

-- what holds of every chassis on one thread
pub record Stands (core : CoreState) : Type 0 where
  -- each port came to where it stands by the entries that its journal keeps
  pub desks : All DeskStands core.desks
  -- each licence is free, in an actor's hands, or with an active unit
  pub balance : IsBalanced core.licences (world_of core)
  pub hands_are : length core.hands ≡ actors

-- a chassis that was just opened
abbrev pub core_opened : List PortConfig → ℕ → ℕ → CoreState
core_opened configs licences limit =
    record { desks = map (opened limit) configs; free = licences; hands = replicate actors 0; licences = licences }

-- the same desks, and licences as in this world
abbrev pub with_licences : CoreState → ChassisWorld → CoreState
with_licences core world = record core { free = world.free; hands = world.hands }

-- ---- serving

-- the desk of one port serves an event with what the actor has in hand, and nothing else changes
pub record CoreServes (old new : CoreState) (actor port : ℕ) (event : Event) (receipt : Receipt) : Type 0 where
  pub desk : DeskState
  pub next : DeskState
  pub rest : ℕ
  pub is : slice_get old.desks port ≡ Some desk
  pub serves : Serves desk next port (hand (world_of old) actor) event receipt rest
  pub core : new ≡ record old { desks = slice_set old.desks port next; hands = slice_set old.hands actor rest }

-- what is lent to actor 0 before an event: for a burst a licence, if one is free and none is in hand
abbrev pub lent : Event → CoreState → CoreState
lent (Burst at bytes) core = with_licences core (taken 0 (world_of core))
lent Frame core = core
lent (Command command) core = core

-- actor 0 takes for a burst, has the event served, and gives
pub record CoreApplies (old new : CoreState) (port : ℕ) (event : Event) (receipt : Receipt) : Type 0 where
  pub between : CoreState
  pub serves : CoreServes (lent event old) between 0 port event receipt
  pub given_is : new ≡ with_licences between (given 0 (world_of between))

-- the moves of actor 0 that serve an event: take (for a burst alone), the port's step, give
abbrev pub moves_of : Event → ℕ → Entry → List Move
moves_of (Burst at bytes) port entry = Take 0 ∷ Port 0 port entry ∷ Give 0 ∷ []
moves_of Frame port entry = Port 0 port entry ∷ Give 0 ∷ []
moves_of (Command command) port entry = Port 0 port entry ∷ Give 0 ∷ []

-- an event is a burst
abbrev pub IsBurst : Event → Type 0
IsBurst (Burst at bytes) = Unit {0}
IsBurst Frame = ⊥
IsBurst (Command command) = ⊥

-- there is this port, and its journal may keep no entry more
pub record IsFullAt (core : CoreState) (port : ℕ) : Type 0 where
  pub desk : DeskState
  pub is : slice_get core.desks port ≡ Some desk
  pub full : HasRoom desk → ⊥

-- of the steps that the port may make with what the actor has in hand, the one that hands out the wished number, or
-- none, is the one that is made
abbrev pub GrantsFrom : CoreState → CoreState → ℕ → ℕ → Event → Option ℕ → Entry → Type 0
GrantsFrom old new actor port event wished entry =
    (desk next : DeskState)
    → slice_get old.desks port ≡ Some desk
    → slice_get new.desks port ≡ Some next
    → GrantsWish (hand (world_of old) actor) desk.state event wished (entry_outcome entry next.state)

-- of the turns that actor 0 may take with this event at the port, the one that hands out the wished number, or none,
-- is the one that is taken: no other may be taken then
abbrev pub GrantsTurn : ChassisWorld → ChassisWorld → ℕ → Event → Option ℕ → Entry → Type 0
GrantsTurn world after port event wished entry =
    (other : Entry) (end : ChassisWorld)
    → other.event ≡ event
    → ChassisRun (moves_of event port other) world end
    → HandsOut wished other.answer.reply
    → (entry ≡ other) × (after ≡ end)

-- actor 0 takes for a burst, has the event served with this wish, and gives: this is the receipt
pub record AppliesWishing (old new : CoreState) (port : ℕ) (event : Event) (wished : Option ℕ) (receipt : Receipt)
    : Type 0 where
  pub applies : CoreApplies old new port event receipt
  pub run : ChassisRun (moves_of event port receipt.entry) (world_of old) (world_of new)
  -- a burst is handed no licence only where none is free
  pub purse : IsBurst event → receipt.entry.purse_in ≡ 0 → old.free ≡ 0
  -- what is sent can be encoded
  pub proper : ForSome receipt.entry.answer.sent IsProperDown
  pub grants : GrantsTurn (world_of old) (world_of new) port event wished receipt.entry

-- the fault of a call that has an event served at this port, if it has one: which it is, and that nothing changes then
pub record FailsAt (old new : CoreState) (port : ℕ) (fault : Option CoreFault) : Type 0 where
  pub same : OnSome fault (new ≡ old)
  -- there is no such port
  pub no_port : (fault ≡ Some NoPort) ↔ (length old.desks ≤ port)
  -- there is, and its journal may keep no entry more
  pub full : port < length old.desks → IfSome fault (λ told. (told ≡ JournalFull) ↔ IsFullAt old port)
  -- actor 0 is there
  pub some_actor : fault ≡ Some NoActor → ⊥

-- ---- what stands in the journal

-- the last entry that the port's journal keeps, if there is this port and it keeps one
abbrev pub last_kept_at : CoreState → ℕ → Option Entry
last_kept_at core port = option_and_then last_kept (slice_get core.desks port)

-- actor 0 takes for a burst, has the event served with this wish, and gives; the entry has this number, and is the last
-- that the port's journal keeps
pub record CoreAppliesInPlace
    (old new : CoreState) (port : ℕ) (event : Event) (wished : Option ℕ) (number : ℕ) : Type 0 where
  pub receipt : Receipt
  pub makes : AppliesWishing old new port event wished receipt
  pub is_port : receipt.port ≡ port
  pub is_number : receipt.number ≡ number
  pub kept : last_kept_at new port ≡ Some receipt.entry

-- a desk serves with what the actor has in hand and with this wish; the entry has this number, and is the last that the
-- port's journal keeps. Inside: no public contract cites this
pub record CoreServesInPlace (old new : CoreState) (actor port : ℕ) (event : Event) (wished : Option ℕ) (number : ℕ)
    : Type 0 where
  pub receipt : Receipt
  pub serves : CoreServes old new actor port event receipt
  pub proper : ForSome receipt.entry.answer.sent IsProperDown
  pub grants : GrantsFrom old new actor port event wished receipt.entry
  pub is_port : receipt.port ≡ port
  pub is_number : receipt.number ≡ number
  pub kept : last_kept_at new port ≡ Some receipt.entry

-- ---- cutting

-- the journal of one port is cut, and nothing else changes
pub record CoreCuts (old new : CoreState) (port : ℕ) (piece : Piece) : Type 0 where
  pub desk : DeskState
  pub next : DeskState
  pub is : slice_get old.desks port ≡ Some desk
  pub cuts : Cuts desk next piece
  pub core : new ≡ record old { desks = slice_set old.desks port next }

-- the port's journal goes on with the number and in the state in which the piece ends
pub record JoinsAt (core : CoreState) (port : ℕ) (piece : Piece) : Type 0 where
  pub desk : DeskState
  pub is : slice_get core.desks port ≡ Some desk
  pub number : piece.first + length piece.entries ≡ desk.first
  pub state : desk.base ≡ Some piece.to
