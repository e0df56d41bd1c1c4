-- What is said to lines that ask for something (this profile's own rule).
use Rattle.std.specs.Prelude.{◌≡◌, ◌≤◌, ◌⊎◌, ◌+◌, ℕ, Bool, false, true, List, [], ◌++◌, Option, None, Some, Result, Ok, Err, codes, decimal}
use Rattle.gp_ploam.specs.declared.check.Mask.{Mask}
use Rattle.gp_machine.specs.declared.entry.Receipt.{Receipt}
use Rattle.gp_flow.specs.declared.fault.Unanswered as unanswered
use Rattle.gp_flow.specs.declared.fault.Unanswered.TheVariants as unanswered_by
use Rattle.gp_flow.specs.Lines.{Speech, WholeLines}
use Rattle.gp_replay.specs.declared.fault.PlayFault.{PlayFault}
use Rattle.gp_replay.specs.declared.fault.PlayFault.TheVariants as plays
use Rattle.gp_trace.specs.Text.{trace_text}
use Rattle.gp_lines.specs.declared.fault.LineFault.{LineFault}
use Rattle.gp_lines.specs.declared.fault.LineFault.TheVariants as lines
use Rattle.gp_lines.specs.declared.turn.Asked.{Asked}
use Rattle.gp_lines.specs.TurnReading.{turn_of}
use Rattle.gp_replay.specs.Playing.{Playing}
use Rattle.gp_drive.specs.declared.fault.TurnFault.{TurnFault}
use Rattle.gp_drive.specs.declared.fault.TurnFault.TheVariants.{NoTurn, NoPort, NoUnit, Never}
use Rattle.gp_drive.specs.declared.manner.DriveManner.{DriveManner}
use Rattle.gp_drive.specs.Shown.{shown_of}
use Rattle.gp_drive.specs.Turns.{PlaysTo, PlaysTurnPart, cost_of, missing_in}

-- where a drive stands: its player, the mask of the codes, whether it tells that a line is done, and when light comes
-- or goes, how many lines were answered, how many of them by an error, and for how many more frames and other events
-- there is room
pub record DriveState (S : Type 0) : Type 0 where
  pub player : S
  pub mask : Mask
  pub done : Bool
  pub lights : Bool
  pub lines : ℕ
  pub errors : ℕ
  pub left : ℕ

-- the most lines that are answered
abbrev pub most_lines : ℕ
most_lines = 18446744073709551615

-- the most frames and other events that all lines together may ask for
abbrev pub most_turns : ℕ
most_turns = 2251799813685248

-- the word for a fault
abbrev pub fault_word : TurnFault → List ℕ
fault_word (NoTurn lines.Word) = codes "word"
fault_word (NoTurn lines.Number) = codes "number"
fault_word (NoTurn lines.Serial) = codes "serial"
fault_word (NoTurn lines.Hex) = codes "hex"
fault_word (NoTurn lines.Range) = codes "range"
fault_word (NoTurn lines.Long) = codes "long"
fault_word (NoTurn lines.Space) = codes "space"
fault_word NoPort = codes "port"
fault_word NoUnit = codes "unit"
fault_word Never = codes "never"

-- what is said to the line with this number, counted from 1, where there is something wrong with it
abbrev pub error_line : ℕ → TurnFault → List ℕ
error_line line fault = codes "error " ++ decimal line ++ (codes " " ++ fault_word fault ++ codes "\n")

-- by what there is wrong with it
abbrev pub error_if : ℕ → Option TurnFault → List ℕ
error_if line None = []
error_if line (Some fault) = error_line line fault

-- that the line with this number is done
abbrev pub done_line : ℕ → List ℕ
done_line line = codes "done " ++ decimal line ++ codes "\n"

-- if that is told
abbrev pub done_if : Bool → ℕ → List ℕ
done_if false line = []
done_if true line = done_line line

-- what ends the answer to the line with this number: an error where there is one, and then, if it is told, that the
-- line is done
abbrev pub ending : Bool → ℕ → Option TurnFault → List ℕ
ending done line fault = error_if line fault ++ done_if done line

-- how many errors that is
abbrev pub errors_of : Option TurnFault → ℕ
errors_of None = 0
errors_of (Some fault) = 1

-- the line is answered by an error, and nothing is played
pub record Refuses {S : Type 0} (fault : TurnFault) (old : DriveState S) (said : List ℕ) (new : DriveState S)
    : Type 0 where
  pub said_is : said ≡ ending old.done (old.lines + 1) (Some fault)
  pub new_is : new ≡ record old { lines = old.lines + 1; errors = old.errors + 1 }

-- what the line asks for is played, and the lines of its entries are the answer; behind them what is told of the unit
-- that it asks to be shown, or of the light that it brings or takes, or an error where the grant that was asked for is
-- made in none of its frames
pub record Plays {S : Type 0} (playing : Playing S) (turn : Asked) (fault : Option TurnFault) (old : DriveState S)
    (said : List ℕ) (new : DriveState S) : Type 0 where
  pub receipts : List Receipt
  pub played : PlaysTo playing turn fault old.player receipts new.player
  pub said_is : said
      ≡ trace_text old.mask receipts
      ++ (shown_of old.lights playing turn new.player ++ ending old.done (old.lines + 1) fault)
  pub mask : new.mask ≡ old.mask
  pub done : new.done ≡ old.done
  pub lights : new.lights ≡ old.lights
  pub lines : new.lines ≡ old.lines + 1
  pub errors : new.errors ≡ old.errors + errors_of fault
  pub left : new.left + cost_of turn ≡ old.left

abbrev pub PlaysAsked : {S : Type 0} → Playing S → Asked → DriveState S → List ℕ → DriveState S → Type 0
PlaysAsked playing turn old said new = (fault : Option TurnFault) × Plays playing turn fault old said new

-- by what it asks for that is not there
abbrev pub AnswersAsked : {S : Type 0} → Playing S → Asked → Option TurnFault → DriveState S → List ℕ → DriveState S
    → Type 0
AnswersAsked playing turn (Some fault) old said new = Refuses fault old said new
AnswersAsked playing turn None old said new = PlaysAsked playing turn old said new

-- by what is read from it
abbrev pub AnswersTurn : {S : Type 0} → Playing S → Result Asked LineFault → DriveState S → List ℕ → DriveState S
    → Type 0
AnswersTurn playing (Err fault) old said new = Refuses (NoTurn fault) old said new
AnswersTurn playing (Ok turn) old said new =
    AnswersAsked playing turn (missing_in (playing.ports old.player) (playing.units old.player) turn) old said new

-- what is said to a line, which is an error where it is too long
abbrev pub Says : {S : Type 0} → Playing S → DriveState S → Option (List ℕ) → List ℕ → DriveState S → Type 0
Says playing old None said new = Refuses (NoTurn lines.Long) old said new
Says playing old (Some text) said new = AnswersTurn playing (turn_of old.mask text) old said new

-- what the line asks for is played in part, since a fault came
pub record PlaysPart {S : Type 0} (playing : Playing S) (turn : Asked) (old : DriveState S) (said : List ℕ)
    (new : DriveState S) : Type 0 where
  pub receipts : List Receipt
  pub played : PlaysTurnPart playing turn old.player receipts new.player
  pub said_is : said ≡ trace_text old.mask receipts

-- what is said to a line before a fault comes
abbrev pub SaysPart : {S : Type 0} → Playing S → DriveState S → Option (List ℕ) → List ℕ → DriveState S → Type 0
SaysPart playing old None said new = ⊥
SaysPart playing old (Some text) said new =
    (turn : Asked) × (turn_of old.mask text ≡ Ok turn) × PlaysPart playing turn old said new

-- why what a line asks for can't be played: so many lines were answered as can be, or there is no room for it
abbrev pub CannotPlay : {S : Type 0} → Asked → DriveState S → Type 0
CannotPlay turn old = (old.lines ≡ most_lines) ⊎ (old.left ≤ cost_of turn)

-- why it can't be answered, by what it asks for that is not there: an error needs no room
abbrev pub CannotAnswer : {S : Type 0} → Asked → Option TurnFault → DriveState S → Type 0
CannotAnswer turn (Some fault) old = old.lines ≡ most_lines
CannotAnswer turn None old = CannotPlay turn old

-- the same, by what is read from it
abbrev pub CannotTake : {S : Type 0} → Playing S → Result Asked LineFault → DriveState S → Type 0
CannotTake playing (Err fault) old = old.lines ≡ most_lines
CannotTake playing (Ok turn) old =
    CannotAnswer turn (missing_in (playing.ports old.player) (playing.units old.player) turn) old

-- why no more lines can be taken
abbrev pub IsFull : {S : Type 0} → Playing S → DriveState S → Option (List ℕ) → Type 0
IsFull playing old None = old.lines ≡ most_lines
IsFull playing old (Some text) = CannotTake playing (turn_of old.mask text) old

-- ---- in parts

-- only an error is said
abbrev pub refusing : {S : Type 0} → TurnFault → Speech (DriveState S)
refusing fault =
    WholeLines (λ old line. old.lines ≡ most_lines) (λ old line said new. Refuses fault old said new)

-- what was read from a line is played
abbrev pub playing_of : {S : Type 0} → Playing S → Asked → Speech (DriveState S)
playing_of playing turn = record {
  says = λ old line said new. PlaysAsked playing turn old said new;
  begins = λ old line said new. PlaysPart playing turn old said new;
  full = λ old line. CannotPlay turn old;
}

-- what was read from a line is answered
abbrev pub answering : {S : Type 0} → Playing S → Asked → Speech (DriveState S)
answering playing turn = record {
  says = λ old line said new. AnswersTurn playing (Ok turn) old said new;
  begins = λ old line said new. PlaysPart playing turn old said new;
  full = λ old line. CannotTake playing (Ok turn) old;
}

-- ---- whole

-- what a drive says to lines
abbrev pub driving : {S : Type 0} → Playing S → Speech (DriveState S)
driving playing = record { says = Says playing; begins = SaysPart playing; full = IsFull playing }

-- a drive goes on as long as lines come
abbrev pub never_over : {S : Type 0} → DriveState S → Bool
never_over state = false

-- before the first line, in this manner
abbrev pub begun_in : {S : Type 0} → DriveManner → S → Mask → DriveState S
begun_in manner player mask =
    record {
      player = player;
      mask = mask;
      done = manner.done;
      lights = manner.lights;
      lines = 0;
      errors = 0;
      left = most_turns;
    }

-- answers end without telling so, and of light nothing is told
abbrev pub untold : DriveManner
untold = record { done = false; lights = false }

-- before the first line, where it isn't told that lines are done, nor when light comes or goes
abbrev pub begun : {S : Type 0} → S → Mask → DriveState S
begun player mask = begun_in untold player mask

-- why a line was not answered, where a turn was not played
abbrev pub line_fault : PlayFault → unanswered.Unanswered
line_fault plays.OutOfMemory = unanswered_by.OutOfMemory
line_fault plays.Write = unanswered_by.Write
