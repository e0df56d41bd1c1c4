-- What is asked of the chassis behind a handle, and what is answered.
use Rattle.std.specs.Prelude.{ℕ, ◌≡◌, ◌<◌, ◌≤◌, ◌↔◌, ◌⊎◌, Option, None, Some, Result, Ok, Err, length, slice_get, IfOk, IfErr, OnOk, OnErr, IfSome, IfNone}
use Rattle.std.specs.FinMap.{get}
use Rattle.std.specs.Option.{ForSome}
use Rattle.gp_ploam.specs.declared.message.Serial.{Serial}
use Rattle.gp_ploam.specs.Down.{IsProperDown}
use Rattle.gp_ploam.specs.Mask.{mask_value}
use Rattle.gp_unit.specs.declared.row.Row.{Row}
use Rattle.gp_unit.specs.Records.{view_of}
use Rattle.gp_machine.specs.declared.event.Event.{Event}
use Rattle.gp_machine.specs.declared.entry.Receipt.{Receipt}
use Rattle.gp_journal.specs.declared.piece.Piece.{Piece}
use Rattle.gp_chassis.specs.declared.config.ChassisConfig.{ChassisConfig}
use Rattle.gp_chassis.specs.Limits.{IsWithin}
use Rattle.gp_chassis.specs.Desk.{DeskState}
use Rattle.gp_chassis.specs.Core.{CoreState, CoreApplies, CoreCuts, IsFullAt, core_opened}
use Rattle.gp_c.specs.declared.answer.AnswerNumbers.{AnswerNumbers}
use Rattle.gp_c.specs.declared.row.RowNumbers.{RowNumbers}
use Rattle.gp_c.specs.declared.fault.Fault.{Fault}
use Rattle.gp_c.specs.declared.fault.Fault.TheVariants.{Limit, OutOfMemory, NoPort, JournalFull, NoUnit}
use Rattle.gp_c.specs.declared.op.Op.{Op}
use Rattle.gp_c.specs.declared.op.Op.TheVariants.{Apply, Show, Count, Cut, Close, Tally, Entry}
use Rattle.gp_c.specs.declared.op.Out.{Out}
use Rattle.gp_c.specs.declared.op.Out.TheVariants.{NotOpen}
use Rattle.gp_c.specs.Answers.{answer_numbers}
use Rattle.gp_c.specs.declared.counts.PortCounts.{PortCounts}
use Rattle.gp_c.specs.Counts.{counts_of}
use Rattle.gp_c.specs.Rows.{row_numbers}
use Rattle.gp_c.specs.Entries.{entry_at}
use Rattle.gp_c.specs.Outs.{done_of, answered_of, shown_of, counted_of, tallied_of, kept_of}

-- ---- opening

-- a chassis was opened with this configuration, or none was
abbrev pub Opens : ChassisConfig → Option CoreState → Result Unit Fault → Type 0
Opens config after done =
    OnOk done (after ≡ Some (core_opened config.ports.items config.licences config.journal_limit))
    × OnOk done ((IsWithin config → ⊥) → ⊥)
    × OnErr done (after ≡ None)
    × (done ≡ Err Limit → IsWithin config → ⊥)
    × IfErr done (λ fault. (fault ≡ Limit) ⊎ (fault ≡ OutOfMemory))

-- ---- an event

-- the chassis applies the event, and the answer tells what that gave
pub record IsServed (core : CoreState) (port : ℕ) (event : Event) (after : CoreState) (answer : AnswerNumbers)
    : Type 0 where
  pub desk : DeskState
  pub is : slice_get core.desks port ≡ Some desk
  pub receipt : Receipt
  pub applies : CoreApplies core after port event receipt
  pub told : answer ≡ answer_numbers (mask_value desk.state.config.mask) receipt.number receipt.entry.answer

-- the first fault that there is
pub record Refuses (core : CoreState) (port : ℕ) (fault : Fault) : Type 0 where
  pub no_port : (fault ≡ NoPort) ↔ (length core.desks ≤ port)
  pub full : port < length core.desks → ((fault ≡ JournalFull) ↔ IsFullAt core port)
  pub only : (fault ≡ NoPort) ⊎ (fault ≡ JournalFull) ⊎ (fault ≡ OutOfMemory)

-- an event was served at a port, or refused
abbrev pub Answers : CoreState → ℕ → Event → CoreState → Result AnswerNumbers Fault → Type 0
Answers core port event after answered =
    IfOk answered (λ answer. IsServed core port event after answer)
    × OnErr answered (after ≡ core)
    × IfErr answered (λ fault. Refuses core port fault)

-- ---- a unit

-- what is known of a unit, if it is active
abbrev pub row_told : Option Row → Result RowNumbers Fault
row_told None = Err NoUnit
row_told (Some row) = Ok (row_numbers (view_of row) row.phase)

-- what a port knows of a unit, if there is the port
abbrev pub row_on : Option DeskState → Serial → Result RowNumbers Fault
row_on None serial = Err NoPort
row_on (Some desk) serial = row_told (get desk.state.rows serial)

-- what the port with this number knows of the unit with this serial number
abbrev pub row_at : CoreState → ℕ → Serial → Result RowNumbers Fault
row_at core port serial = row_on (slice_get core.desks port) serial

-- ---- a port

-- what is counted of a port, if there is the port
abbrev pub counts_on : Option DeskState → Result PortCounts Fault
counts_on None = Err NoPort
counts_on (Some desk) = Ok (counts_of desk)

-- what is counted of the port with this number
abbrev pub counts_at : CoreState → ℕ → Result PortCounts Fault
counts_at core port = counts_on (slice_get core.desks port)

-- ---- a journal

-- what the port's journal keeps is let go, and it begins anew
pub record IsCut (core : CoreState) (port : ℕ) (after : CoreState) : Type 0 where
  pub piece : Piece
  pub cuts : CoreCuts core after port piece

-- why a journal is not cut
pub record KeepsJournal (core : CoreState) (port : ℕ) (fault : Fault) : Type 0 where
  pub no_port : (fault ≡ NoPort) ↔ (length core.desks ≤ port)
  pub only : (fault ≡ NoPort) ⊎ (fault ≡ OutOfMemory)

-- the journal of a port was cut, or nothing changed
abbrev pub Cuts : CoreState → ℕ → CoreState → Result Unit Fault → Type 0
Cuts core port after cut =
    OnOk cut (IsCut core port after)
    × OnErr cut (after ≡ core)
    × IfErr cut (λ fault. KeepsJournal core port fault)

-- ---- whatever is asked

-- a chassis that was asked stays open, and this holds of it
abbrev pub StaysOpen : Option CoreState → (CoreState → Type 0) → Type 0
StaysOpen after P = IfSome after P × IfNone after ⊥

-- what is asked, and what is answered
abbrev pub Serves : Option CoreState → Op → Option CoreState → Out → Type 0
Serves before op after out =
    (before ≡ None → (after ≡ None) × (out ≡ NotOpen))
    × ((core : CoreState) (port : ℕ) (event : Event) → before ≡ Some core → op ≡ Apply port event
    → StaysOpen after (λ new. Answers core port event new (answered_of out)))
    × ((core : CoreState) (port : ℕ) (serial : Serial) → before ≡ Some core → op ≡ Show port serial
    → (after ≡ Some core) × (shown_of out ≡ row_at core port serial))
    × ((core : CoreState) → before ≡ Some core → op ≡ Count
    → (after ≡ Some core) × (counted_of out ≡ Ok core.free))
    × ((core : CoreState) (port : ℕ) → before ≡ Some core → op ≡ Cut port
    → StaysOpen after (λ new. Cuts core port new (done_of out)))
    × ((core : CoreState) → before ≡ Some core → op ≡ Close → (after ≡ None) × (done_of out ≡ Ok tt))
    × ((core : CoreState) (port : ℕ) → before ≡ Some core → op ≡ Tally port
    → (after ≡ Some core) × (tallied_of out ≡ counts_at core port))
    × ((core : CoreState) (port number : ℕ) → before ≡ Some core → op ≡ Entry port number
    → (after ≡ Some core) × (kept_of out ≡ entry_at core port number)
    × IfOk (kept_of out) (λ kept. ForSome kept.receipt.entry.answer.sent IsProperDown))
