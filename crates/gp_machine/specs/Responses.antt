-- What a port does with an event, as the tables of the machine say it: what it answers, and what changes (this
-- profile's own rule).
use Rattle.std.specs.Prelude.{ℕ, ◌+◌, nat_le, Bool, true, if◌then◌else◌, not, List, [], ◌∷◌, length, Option, None, Some}
use Rattle.gp_volley.specs.Copies.{copies_each}
use Rattle.gp_ploam.specs.declared.message.Serial.{Serial}
use Rattle.gp_ploam.specs.declared.message.Down.{Down}
use Rattle.gp_ploam.specs.declared.message.Down.TheVariants.{AssignOnu, AssignAlloc, Deactivate}
use Rattle.gp_ranging.specs.declared.grant.Grant.{Grant}
use Rattle.gp_alarms.specs.declared.alarm.Alarm.{Alarm}
use Rattle.gp_alarms.specs.declared.alarm.AlarmKind.{AlarmKind}
use Rattle.gp_unit.specs.declared.row.Row.{Row}
use Rattle.gp_unit.specs.Rows.{new_row, row_with_alloc}
use Rattle.gp_machine.specs.declared.answer.Answer.{Answer}
use Rattle.gp_machine.specs.declared.refusal.Refusal.{Refusal}
use Rattle.gp_machine.specs.declared.refusal.Refusal.TheVariants.{Busy}
use Rattle.gp_machine.specs.declared.reply.Reply.{Reply}
use Rattle.gp_machine.specs.declared.reply.Reply.TheVariants.{Found, Allocated}
use Rattle.gp_volley.specs.Copies.{max_copies_with_room}
use Rattle.gp_machine.specs.State.{PortState, IsFree, IsFreeAlloc}
use Rattle.gp_machine.specs.Changes.{Change, state_after, purse_after, StepResult, Owes, AddsUnit, SetsRow, RemovesUnit}

-- ---- what the tables say

-- what the port does with an event: it replies, grants and raises this, and makes these changes, or it gives a free
-- number, whichever it picks
pub data Response : Type 0 where
  Responds : (reply : Reply) (grant : Option Grant) (alarm : Option Alarm) (changes : List Change) → Response
  -- a new unit gets a free ONU-ID
  GivesOnu : (serial : Serial) → Response
  -- the unit with this row gets a free Alloc-ID
  GivesAlloc : (serial : Serial) (row : Row) → Response

-- a reply, and these changes
abbrev pub replies : Reply → List Change → Response
replies reply changes = Responds reply None None changes

-- a reply, an alarm of a unit, and these changes
abbrev pub alarms : Reply → AlarmKind → Serial → List Change → Response
alarms reply kind serial changes = Responds reply None (Some (record { kind = kind; serial = serial })) changes

-- the unit with this ONU-ID is removed, and is told so
abbrev pub removal : Serial → ℕ → List Change
removal serial onu = RemovesUnit serial onu ∷ Owes (Deactivate onu) ∷ []

-- a burst or a command may owe a message: with it no more copies are owed than may be
abbrev pub has_room : PortState → Bool
has_room port = nat_le (length port.owed + copies_each) max_copies_with_room

-- why a burst or a command may not owe a message
abbrev pub busy_causes : PortState → List (Bool × Refusal)
busy_causes port = (not (has_room port), Busy) ∷ []

-- the first cause that holds refuses, and with none that holds this is done
abbrev pub unless : (Refusal → Response) → List (Bool × Refusal) → Response → Response
unless refuse [] response = response
unless refuse ((holds, refusal) ∷ causes) response = if holds then refuse refusal else unless refuse causes response

-- ---- what is done

-- an answer that sends, grants and raises nothing
abbrev pub bare_answer : Reply → Answer
bare_answer reply = record { reply = reply; sent = None; grant = None; alarm = None }

-- the answer to what is done, with the number that was picked; it sends this
abbrev pub answer_with : Option Down → Response → ℕ → Answer
answer_with sent (Responds reply grant alarm changes) picked =
    record { reply = reply; sent = sent; grant = grant; alarm = alarm }
answer_with sent (GivesOnu serial) picked = record { reply = Found picked; sent = sent; grant = None; alarm = None }
answer_with sent (GivesAlloc serial row) picked =
    record { reply = Allocated picked; sent = sent; grant = None; alarm = None }

-- what changes, with the number that was picked: a new unit has this ONU-ID and begins to range, or an active one has
-- this Alloc-ID to acknowledge; it is told so
abbrev pub changes_with : Response → ℕ → List Change
changes_with (Responds reply grant alarm changes) picked = changes
changes_with (GivesOnu serial) picked = AddsUnit serial (new_row picked) ∷ Owes (AssignOnu picked serial) ∷ []
changes_with (GivesAlloc serial row) picked =
    SetsRow serial (row_with_alloc row picked) ∷ Owes (AssignAlloc row.onu picked true) ∷ []

-- the number may be picked: it is free
abbrev pub MayPick : PortState → Response → ℕ → Type 0
MayPick port (Responds reply grant alarm changes) picked = Unit {0}
MayPick port (GivesOnu serial) picked = IsFree port picked
MayPick port (GivesAlloc serial row) picked = IsFreeAlloc port picked

-- what comes of it
abbrev pub step_result_with : ℕ → PortState → Option Down → Response → ℕ → StepResult
step_result_with licences port sent response picked =
    record {
      answer = answer_with sent response picked;
      purse = purse_after licences (changes_with response picked);
      state = state_after port (changes_with response picked);
    }
