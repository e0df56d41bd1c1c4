-- A port with its journal (this profile's own rule).
use Rattle.std.specs.Prelude.{ℕ, List, Option, None, Some, All, ◌≡◌, ◌+◌, ◌-◌, ◌<◌, ◌^◌, ◌++◌, ◌∷◌, [], length, slice_get, IsTrue}
use Rattle.std.specs.Option.{ForSome}
use Rattle.gp_ploam.specs.Down.{IsProperDown}
use Rattle.gp_machine.specs.declared.config.PortConfig.{PortConfig}
use Rattle.gp_machine.specs.declared.event.Event.{Event}
use Rattle.gp_machine.specs.declared.entry.Entry.{Entry}
use Rattle.gp_machine.specs.declared.entry.Receipt.{Receipt}
use Rattle.gp_machine.specs.Config.{is_within_limits}
use Rattle.gp_machine.specs.State.{PortState, opening_of}
use Rattle.gp_machine.specs.Sound.{IsSound}
use Rattle.gp_machine.specs.Run.{IsStep, IsReached, entry_outcome}
use Rattle.gp_port.specs.Numbers.{GrantsWish}
use Rattle.gp_journal.specs.declared.piece.Piece.{Piece}
use Rattle.gp_journal.specs.Kept.{History}
use Rattle.gp_journal.specs.Replays.{Replays}
use Rattle.gp_chassis.specs.Limits.{IsJournalLimit}

-- a port with its journal: how many entries the journal may keep, the number of the first entry that it keeps, the
-- state before that entry (None: the port was just opened), the entries, and where the port stands
pub record DeskState : Type 0 where
  pub limit : ℕ
  pub first : ℕ
  pub base : Option PortState
  pub entries : List Entry
  pub state : PortState

-- the entries that it keeps, with their numbers
abbrev pub history_of_desk : DeskState → History
history_of_desk desk = record { first = desk.first; entries = desk.entries }

-- a desk that was just opened
abbrev pub opened : ℕ → PortConfig → DeskState
opened limit config = record { limit = limit; first = 0; base = None; entries = []; state = opening_of config }

-- what the entry tells as sent can be encoded
abbrev pub IsProperEntry : Entry → Type 0
IsProperEntry entry = ForSome entry.answer.sent IsProperDown

-- what holds of every desk
pub record DeskStands (desk : DeskState) : Type 0 where
  -- the entries that are kept tell how the port came from the base to where it stands
  pub replays : Replays desk.state.config desk.base desk.entries desk.state
  -- and it was opened once, and has made steps alone since then
  pub reached : IsReached desk.state.config desk.state
  -- what the entries that are kept tell as sent can be encoded
  pub proper : All IsProperEntry desk.entries

-- the journal may keep an entry more
pub record HasRoom (desk : DeskState) : Type 0 where
  -- it keeps fewer entries than it may
  pub kept : length desk.entries < desk.limit
  -- and their numbers fit into 64 bits
  pub counted : desk.first + length desk.entries + 1 < 2 ^ 64

-- the desk with an entry more, where the port now stands so
abbrev pub desk_after : DeskState → Entry → PortState → DeskState
desk_after desk entry next = record desk { entries = desk.entries ++ entry ∷ []; state = next }

-- the port makes one step with these licences, and the journal keeps one entry more, which is the receipt's
pub record Serves (old new : DeskState) (port purse : ℕ) (event : Event) (receipt : Receipt) (rest : ℕ) : Type 0 where
  pub room : HasRoom old
  pub step : IsStep old.state receipt.entry new.state
  pub sound : IsSound new.state
  -- what is sent can be encoded
  pub proper : IsProperEntry receipt.entry
  pub purse_in : receipt.entry.purse_in ≡ purse
  pub event_is : receipt.entry.event ≡ event
  pub rest_is : rest ≡ receipt.entry.purse_out
  pub port_is : receipt.port ≡ port
  pub number : receipt.number ≡ old.first + length old.entries
  pub desk : new ≡ desk_after old receipt.entry new.state
  pub stands : DeskStands new

-- the last entry that the desk's journal keeps, if it keeps one
abbrev pub last_kept : DeskState → Option Entry
last_kept desk = slice_get desk.entries (length desk.entries - 1)

-- the desk serves, whatever its port's number, and hands out the wished number where it can; the entry with this number
-- is the last that its journal keeps. Inside: no public contract cites this
pub record ServesInPlace (old new : DeskState) (purse : ℕ) (event : Event) (wished : Option ℕ) (number rest : ℕ)
    : Type 0 where
  pub entry : Entry
  pub serves : (port : ℕ)
      → Serves old new port purse event (record { port = port; number = number; entry = entry }) rest
  pub grants : GrantsWish purse old.state event wished (entry_outcome entry new.state)

-- all that the desk's journal keeps
abbrev pub piece_of : DeskState → Piece
piece_of desk = record { first = desk.first; from = desk.base; to = desk.state; entries = desk.entries }

-- the desk once that is cut off: the next number and the next state are those in which it ended
abbrev pub desk_cut : DeskState → DeskState
desk_cut desk = record desk { first = desk.first + length desk.entries; base = Some desk.state; entries = [] }

-- the desk's journal is cut, and the piece tells how the port came from the old base to where it stands
pub record Cuts (old new : DeskState) (piece : Piece) : Type 0 where
  pub of : piece ≡ piece_of old
  pub desk : new ≡ desk_cut old
  pub was : DeskStands old
  pub stands : DeskStands new

-- with this configuration and this limit of its journal a desk may be opened
pub record MayOpen (config : PortConfig) (limit : ℕ) : Type 0 where
  pub config_within : IsTrue (is_within_limits config)
  pub limit_within : IsJournalLimit limit
