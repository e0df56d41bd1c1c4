-- The ports of a play, each with the number of its next entry, and what a turn leaves of them (this profile's own
-- rule).
-- Inside: no public contract cites this.
use Rattle.std.specs.Prelude.{◌≡◌, ℕ, ◌+◌, List, Option, map, replicate}
use Rattle.std.specs.Option.{ForSome}
use Rattle.gp_ploam.specs.Down.{IsProperDown}
use Rattle.gp_machine.specs.declared.config.PortConfig.{PortConfig}
use Rattle.gp_machine.specs.declared.event.Event.{Event}
use Rattle.gp_machine.specs.declared.entry.Entry.{Entry}
use Rattle.gp_machine.specs.State.{PortState, opening_of}
use Rattle.gp_machine.specs.Run.{IsStep, entry_outcome}
use Rattle.gp_port.specs.Numbers.{GrantsWish}
use Rattle.gp_chassis.specs.World.{actors}
use Rattle.gp_replay.specs.Chassis.{IsSoundPort, PlayState}

-- a port of a play, and the number of its next entry
pub record SeatState : Type 0 where
  pub port : PortState
  pub next : ℕ

-- the port that sits there
abbrev pub port_of : SeatState → PortState
port_of seat = seat.port

-- the number of its next entry
abbrev pub next_of : SeatState → ℕ
next_of seat = seat.next

-- a port that was just opened
abbrev pub seat_opened : PortConfig → SeatState
seat_opened config = record { port = opening_of config; next = 0 }

-- nobody has a licence in hand
unfoldable pub empty_hands : List ℕ
empty_hands = replicate actors 0

-- a play between two turns: its ports sit here, and so many licences are free
abbrev pub play_on : List SeatState → ℕ → PlayState
play_on seats free = record {
  world = record { ports = map port_of seats; free = free; hands = empty_hands };
  next = map next_of seats;
}

-- the port takes an event with these licences, of which so many are left, and with this wish; the entry tells of it
pub record SeatTakes
    (old new : SeatState) (purse : ℕ) (event : Event) (wished : Option ℕ) (entry : Entry) (rest : ℕ) : Type 0 where
  pub purse_in : entry.purse_in ≡ purse
  pub event_is : entry.event ≡ event
  pub purse_out : entry.purse_out ≡ rest
  pub step : IsStep old.port entry new.port
  pub stands : IsSoundPort new.port
  -- what is sent can be encoded
  pub proper : ForSome entry.answer.sent IsProperDown
  pub grants : GrantsWish purse old.port event wished (entry_outcome entry new.port)
  pub next_is : new.next ≡ old.next + 1
