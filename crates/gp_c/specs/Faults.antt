-- The numbers of faults (this library's own rule; include/wagpisud.h has their names).
use Rattle.std.specs.Prelude.{ℕ, List, [], ◌∷◌, codes, slice_index_or}
use Rattle.gp_c.specs.declared.fault.Fault.{Fault}
use Rattle.gp_c.specs.declared.fault.Fault.TheVariants.{NotOpen, IsOpen, Limit, OutOfMemory, NoPort, JournalFull, NoUnit, NoCommand, Serials, NoEvent, LineWord, LineNumber, LineSerial, LineHex, LineRange, LineLong, NoEntry, LineSpace}

-- the number of a fault
abbrev pub fault_number : Fault → ℕ
fault_number NotOpen = 1
fault_number IsOpen = 2
fault_number Limit = 3
fault_number OutOfMemory = 4
fault_number NoPort = 5
fault_number JournalFull = 6
fault_number NoUnit = 7
fault_number NoCommand = 8
fault_number Serials = 9
fault_number NoEvent = 10
fault_number LineWord = 11
fault_number LineNumber = 12
fault_number LineSerial = 13
fault_number LineHex = 14
fault_number LineRange = 15
fault_number LineLong = 16
fault_number NoEntry = 17
fault_number LineSpace = 18

-- the texts of the statuses, in the order of their numbers, from 0
abbrev pub status_texts : List (List ℕ)
status_texts =
    codes "done"
    ∷ codes "the handle is closed"
    ∷ codes "the handle is open"
    ∷ codes "outside the limits"
    ∷ codes "out of memory"
    ∷ codes "no such port"
    ∷ codes "journal full"
    ∷ codes "no such unit"
    ∷ codes "no such command"
    ∷ codes "serial numbers too few or too many"
    ∷ codes "no such event"
    ∷ codes "line: word"
    ∷ codes "line: number"
    ∷ codes "line: serial"
    ∷ codes "line: hex"
    ∷ codes "line: range"
    ∷ codes "line: long"
    ∷ codes "no such entry"
    ∷ codes "line: space"
    ∷ []

-- the text of a status
abbrev pub status_text : ℕ → List ℕ
status_text status = slice_index_or status_texts status (codes "no such status")
