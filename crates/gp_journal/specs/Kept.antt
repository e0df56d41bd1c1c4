-- What a journal keeps (this profile's own rule).
use Rattle.std.specs.Prelude.{ℕ, ◌-◌, List, Option, None, slice_get, nat_lt, if◌then◌else◌}
use Rattle.gp_machine.specs.declared.entry.Entry.{Entry}
use Rattle.gp_machine.specs.State.{PortState}

-- entries in order, and the number of the first of them
pub record History : Type 0 where
  pub first : ℕ
  pub entries : List Entry

-- the entry with this number, if it is among them
abbrev pub entry_in : History → ℕ → Option Entry
entry_in history number =
    if nat_lt number history.first then None else slice_get history.entries (number - history.first)

-- a journal: the number of the first entry that it keeps, the state before that entry (None: the port was just
-- opened), the entries that it keeps, and for how many more it has room
pub record Kept : Type 0 where
  pub first : ℕ
  pub base : Option PortState
  pub entries : List Entry
  pub room : ℕ

-- the entries that a journal keeps, with their numbers
abbrev pub history_of : Kept → History
history_of journal = record { first = journal.first; entries = journal.entries }
