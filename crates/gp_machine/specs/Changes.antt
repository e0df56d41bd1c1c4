-- What an event changes: the changes, what each of them does to the state of a port and to the licences in the purse
-- (this profile's own rule).
use Rattle.std.specs.Prelude.{ℕ, ◌+◌, ◌-◌, ◌==◌, Bool, true, false, if◌then◌else◌, List, [], ◌∷◌, ◌++◌, set, Option, None, Some, option_map}
use Rattle.std.specs.FinMap.{insert, remove}
use Rattle.std.specs.FinSet as finset
use Rattle.gp_volley.specs.Copies.{all_copies}
use Rattle.gp_ploam.specs.declared.message.Serial.{Serial}
use Rattle.gp_ploam.specs.declared.message.Down.{Down}
use Rattle.gp_ranging.specs.declared.grant.Grant.{Grant}
use Rattle.gp_ranging.specs.declared.grant.Grant.TheVariants.{Search, Range, Poll}
use Rattle.gp_ranging.specs.Window.{WindowState, fresh_window, marked_window}
use Rattle.gp_common.specs.declared.common.Common.{Common}
use Rattle.gp_unit.specs.declared.row.Row.{Row}
use Rattle.gp_unit.specs.Rows.{row_popped_up}
use Rattle.gp_machine.specs.declared.answer.Answer.{Answer}
use Rattle.gp_machine.specs.State.{PortState, rows_mapped}

-- ---- one change

-- what may change in one go
pub data Change : Type 0 where
  -- the message is owed: its copies come after all that is owed
  Owes : (message : Down) → Change
  -- the open window has seen something
  MarksSeen : Change
  -- the open window has a frame less
  CountsDown : Change
  -- the open window closes
  ClosesWindow : Change
  -- the window of this grant opens; a unit that is asked by a poll is now the last polled one
  OpensWindow : (grant : Grant) → Change
  -- the common state is now this one
  Enters : (common : Common) → Change
  -- a search is wanted, or not
  Wants : (wanted : Bool) → Change
  -- a unit that is not active gets this row, and one licence of the purse
  AddsUnit : (serial : Serial) (row : Row) → Change
  -- the row of an active unit is now this one
  SetsRow : (serial : Serial) (row : Row) → Change
  -- the unit with this ONU-ID is removed, and its licence is back in the purse
  RemovesUnit : (serial : Serial) (onu : ℕ) → Change
  -- the serial number is disabled
  Disables : (serial : Serial) → Change
  -- the serial number is not disabled
  Enables : (serial : Serial) → Change
  -- no serial number is disabled
  EnablesAll : Change
  -- every operating unit ranges anew, and an open poll window closes
  PopsUpAll : Change

-- the state that owes a message besides: all its copies, after all that is owed
abbrev pub state_owing : PortState → Down → PortState
state_owing port message = record port { owed = port.owed ++ all_copies message }

-- the state in which the open window has seen something
abbrev pub state_seen : PortState → PortState
state_seen port = record port { window = option_map marked_window port.window }

-- a window with a frame less
abbrev pub window_counted_down : WindowState → WindowState
window_counted_down window = record window { left = window.left - 1 }

-- the state in which the open window has a frame less
abbrev pub state_counted_down : PortState → PortState
state_counted_down port = record port { window = option_map window_counted_down port.window }

-- no window is open
abbrev pub state_closed : PortState → PortState
state_closed port = record port { window = None }

-- the last polled ONU-ID, once this grant is issued
abbrev pub polled_after : Option ℕ → Grant → Option ℕ
polled_after polled Search = polled
polled_after polled (Range onu) = polled
polled_after polled (Poll onu) = Some onu

-- the window of this grant is open
abbrev pub state_open : PortState → Grant → PortState
state_open port grant = record port { window = Some (fresh_window grant); polled = polled_after port.polled grant }

-- the unit has this row
abbrev pub state_with_row : PortState → Serial → Row → PortState
state_with_row port serial row = record port { rows = insert port.rows serial row }

-- whether a grant asks the unit with this ONU-ID
abbrev pub asks_unit : Grant → ℕ → Bool
asks_unit Search onu = false
asks_unit (Range asked) onu = asked == onu
asks_unit (Poll asked) onu = asked == onu

-- the open window, but none that asks the unit with this ONU-ID
abbrev pub window_without : Option WindowState → ℕ → Option WindowState
window_without None onu = None
window_without (Some window) onu = if asks_unit window.grant onu then None else Some window

-- the unit with this ONU-ID is removed: it has no row, a window that asks it is closed uncounted, and its ONU-ID is
-- cooling
abbrev pub state_without : PortState → Serial → ℕ → PortState
state_without port serial onu =
    record port {
      rows = remove port.rows serial;
      window = window_without port.window onu;
      cooling = set port.cooling onu port.config.quarantine;
    }

-- whether a grant is a poll
abbrev pub is_poll : Grant → Bool
is_poll Search = false
is_poll (Range asked) = false
is_poll (Poll asked) = true

-- the open window, but no poll window
abbrev pub window_unpolled : Option WindowState → Option WindowState
window_unpolled None = None
window_unpolled (Some window) = if is_poll window.grant then None else Some window

-- every operating unit ranges anew, and keeps its Alloc-IDs; an open poll window is closed uncounted
abbrev pub state_popped_up : PortState → PortState
state_popped_up port =
    record port
    { rows = rows_mapped (λ row. row_popped_up row row.phase) port.rows; window = window_unpolled port.window }

-- the state after one change
abbrev pub state_after_change : PortState → Change → PortState
state_after_change port (Owes message) = state_owing port message
state_after_change port MarksSeen = state_seen port
state_after_change port CountsDown = state_counted_down port
state_after_change port ClosesWindow = state_closed port
state_after_change port (OpensWindow grant) = state_open port grant
state_after_change port (Enters common) = record port { common = common }
state_after_change port (Wants wanted) = record port { wanted = wanted }
state_after_change port (AddsUnit serial row) = state_with_row port serial row
state_after_change port (SetsRow serial row) = state_with_row port serial row
state_after_change port (RemovesUnit serial onu) = state_without port serial onu
state_after_change port (Disables serial) = record port { disabled = finset.insert port.disabled serial }
state_after_change port (Enables serial) = record port { disabled = finset.remove port.disabled serial }
state_after_change port EnablesAll = record port { disabled = finset.empty }
state_after_change port PopsUpAll = state_popped_up port

-- the licences in the purse after one change
abbrev pub purse_after_change : ℕ → Change → ℕ
purse_after_change licences (AddsUnit serial row) = licences - 1
purse_after_change licences (RemovesUnit serial onu) = licences + 1
purse_after_change licences _ = licences

-- ---- what a step gives

-- the state after changes, one after another
abbrev pub state_after : PortState → List Change → PortState
state_after port [] = port
state_after port (change ∷ changes) = state_after (state_after_change port change) changes

-- the licences in the purse after them
abbrev pub purse_after : ℕ → List Change → ℕ
purse_after licences [] = licences
purse_after licences (change ∷ changes) = purse_after (purse_after_change licences change) changes

-- the messages that they owe, in order
abbrev pub owed_by : List Change → List Down
owed_by [] = []
owed_by (Owes message ∷ changes) = message ∷ owed_by changes
owed_by (change ∷ changes) = owed_by changes

-- what a step gives: its answer, the licences left in the purse, and the state after it
pub record StepResult : Type 0 where
  pub answer : Answer
  pub purse : ℕ
  pub state : PortState

-- a pair of an answer and the licences left, with the state after it, as an outcome (what `PortCore::step` returns)
abbrev pub step_result_of : Answer × ℕ → PortState → StepResult
step_result_of given port = record { answer = given.0; purse = given.1; state = port }
