-- The entries that a port's journal keeps, as C is told them (this library's own rule).
use Rattle.std.specs.Prelude.{ℕ, List, Option, None, Some, Result, Ok, Err, slice_get}
use Rattle.gp_ploam.specs.declared.check.Mask.{Mask}
use Rattle.gp_ploam.specs.Mask.{mask_value}
use Rattle.gp_trace.specs.Text.{line_of}
use Rattle.gp_machine.specs.declared.entry.Entry.{Entry}
use Rattle.gp_journal.specs.Kept.{entry_in}
use Rattle.gp_chassis.specs.Desk.{DeskState, history_of_desk}
use Rattle.gp_chassis.specs.Core.{CoreState}
use Rattle.gp_c.specs.declared.fault.Fault.{Fault}
use Rattle.gp_c.specs.declared.fault.Fault.TheVariants.{NoPort, NoEntry}
use Rattle.gp_c.specs.declared.kept.KeptEntry.{KeptEntry}
use Rattle.gp_c.specs.declared.answer.AnswerNumbers.{AnswerNumbers}
use Rattle.gp_c.specs.declared.event.EventNumbers.{EventNumbers}
use Rattle.gp_c.specs.Answers.{answer_numbers}
use Rattle.gp_c.specs.Events.{event_numbers}

-- the entry with this number of a port with this mask, if it is kept
abbrev pub entry_told : Mask → ℕ → ℕ → Option Entry → Result KeptEntry Fault
entry_told mask port number None = Err NoEntry
entry_told mask port number (Some entry) =
    Ok (record { mask = mask; receipt = record { port = port; number = number; entry = entry } })

-- the entry with this number of a port, if there is the port
abbrev pub entry_on : Option DeskState → ℕ → ℕ → Result KeptEntry Fault
entry_on None port number = Err NoPort
entry_on (Some desk) port number =
    entry_told desk.state.config.mask port number (entry_in (history_of_desk desk) number)

-- the entry with this number that the journal of the port with this number keeps
abbrev pub entry_at : CoreState → ℕ → ℕ → Result KeptEntry Fault
entry_at core port number = entry_on (slice_get core.desks port) port number

-- what is told of it, where it is kept
abbrev pub told_by : {A : Type 0} → (KeptEntry → A) → Result KeptEntry Fault → Result A Fault
told_by tell (Ok kept) = Ok (tell kept)
told_by tell (Err fault) = Err fault

-- what happened
abbrev pub event_told : KeptEntry → EventNumbers
event_told kept = event_numbers kept.receipt.entry.event

-- what the port gave for it
abbrev pub answer_told : KeptEntry → AnswerNumbers
answer_told kept = answer_numbers (mask_value kept.mask) kept.receipt.number kept.receipt.entry.answer

-- its line of the trace
abbrev pub line_told : KeptEntry → List ℕ
line_told kept = line_of kept.mask kept.receipt
