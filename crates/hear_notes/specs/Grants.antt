-- How the last windows of a port are kept (this profile's own rule).
use Rattle.std.specs.Prelude.{◌≡◌, ℕ, ◌==◌, ◌&&◌, Bool, true, false, not, if◌then◌else◌, List, map, Option, None, Some, refl}
use Rattle.std.specs.Coded.{Coded, code_by, coded×, coded_list, coded_ℕ, coded_option}
use Rattle.std.specs.FinMap as fin
use Rattle.gp_ploam.specs.declared.message.Serial.{Serial}
use Rattle.gp_ploam.specs.declared.message.Up.{Up}
use Rattle.gp_ploam.specs.declared.message.Up.TheVariants.{SerialNumber}
use Rattle.gp_ploam.specs.OnuIds.{broadcast_onu}
use Rattle.gp_ploam.specs.Serials.{coded_serial}
use Rattle.hear_rules.specs.Units as units
use Rattle.hear_rules.specs.Units.{Grants, is_searched, may_answer, first_waiting}
use Rattle.hear_notes.specs.declared.fault.NoteFault.{NoteFault}
use Rattle.hear_notes.specs.declared.granted.Granted.{Granted}
use Rattle.hear_notes.specs.contracts.granted.Granted as granteds
use Rattle.hear_notes.specs.Searches.{Searches, FailsFor, is_full}

-- the windows that are kept, how many there were, the frame of the last one that isn't kept any more, and which search
-- each serial number answered last
pub record Book : Type 0 where
  pub kept : List Granted
  pub count : ℕ
  pub lost : Option ℕ
  pub searched : Searches

-- it is stored as its parts
abbrev pub book_code : Coded Book
book_code =
    code_by (List Granted × (ℕ × (Option ℕ × Searches)))
    (coded× (coded_list granteds.the_row.coded)
    (coded× coded_ℕ (coded× (coded_option coded_ℕ) (fin.code coded_serial coded_ℕ))))
    (λ b. (b.kept, (b.count, (b.lost, b.searched))))
    (λ p. record { kept = p.0; count = p.1.0; lost = p.1.1.0; searched = p.1.1.1 })
    (λ _. refl)

-- ---- what it says

abbrev pub granted_of : Granted → units.Granted
granted_of granted =
    record { grant = granted.grant; at = granted.at; number = granted.number; answered = granted.answered }

abbrev pub grants_of : Book → Grants
grants_of book =
    record {
      kept = map granted_of book.kept;
      count = book.count;
      lost = book.lost;
      searched = λ serial. fin.get book.searched serial;
    }

-- a window, answered if it is the one with this number
abbrev pub marked : ℕ → Granted → Granted
marked number granted = if granted.number == number then record granted { answered = true } else granted

-- they are the same
pub record SameGrants (one other : Grants) : Type 0 where
  pub kept : one.kept ≡ other.kept
  pub count : one.count ≡ other.count
  pub lost : one.lost ≡ other.lost
  pub searched : (serial : Serial) → one.searched serial ≡ other.searched serial

-- ---- whether a window waits for an answer, where the last search is known that the serial number in it answered

abbrev pub searched_by : Searches → Up → Option ℕ
searched_by searches (SerialNumber onu serial random flags) = fin.get searches serial
searched_by searches _ = None

abbrev pub had_by : Option ℕ → units.Granted → Up → Bool
had_by searched granted (SerialNumber onu serial random flags) =
    if onu == broadcast_onu then is_searched searched granted.number else granted.answered
had_by searched granted _ = granted.answered

abbrev pub waits_by : ℕ → ℕ → Option ℕ → units.Granted → Up → Bool
waits_by grace now searched granted message =
    may_answer grace now granted message && not (had_by searched granted message)

-- ---- why an answer can't be noted

-- the serial number in a search's answer
abbrev pub asking : Up → Option Serial
asking (SerialNumber onu serial random flags) = if onu == broadcast_onu then Some serial else None
asking _ = None

abbrev pub searcher_of : Option ℕ → Up → Option Serial
searcher_of None _ = None
searcher_of (Some number) message = asking message

-- where the message answers a search
abbrev pub searcher : ℕ → ℕ → Book → Up → Option Serial
searcher grace now book message =
    let grants = grants_of book in searcher_of (first_waiting grace now grants grants.kept message) message

abbrev pub has_no_room : Book → Option Serial → Bool
has_no_room book None = false
has_no_room book (Some serial) = is_full book.searched serial

abbrev pub FailsBy : Book → Option Serial → NoteFault → Type 0
FailsBy book None fault = ⊥
FailsBy book (Some serial) fault = FailsFor book.searched serial fault
