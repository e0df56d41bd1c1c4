-- Where the marks of entries stand: those of a port behind those of the port before it (this profile's own rule).
-- Inside: no public contract cites this.
use Rattle.std.specs.Prelude.{ℕ, ◌≡◌, ◌<◌, ◌+◌, slice_index, List, Some, count_by, sum_by, length, slice_get, take}
use Rattle.gp_machine.specs.declared.entry.Receipt.{Receipt}
use Rattle.gp_journal.specs.Kept.{History, entry_in}
use Rattle.gp_accounts.specs.Accounted.{names}

-- how many entries the ports before this one have
abbrev pub entries_before : List History → ℕ → ℕ
entries_before histories port = sum_by (λ (history : History). length history.entries) (take port histories)

-- how many entries all ports have
abbrev pub entry_count : List History → ℕ
entry_count histories = sum_by (λ (history : History). length history.entries) histories

-- for each port, how many entries the ports before it have
pub record AreStarts (histories : List History) (starts : List ℕ) : Type 0 where
  pub count : length starts ≡ length histories
  pub each : (port : ℕ) → port < length histories → slice_index starts port ≡ entries_before histories port

-- the receipt names an entry, and the entry's mark stands at this place
pub record IsPlaceOf (histories : List History) (receipt : Receipt) (place : ℕ) : Type 0 where
  pub history : History
  pub of : slice_get histories receipt.port ≡ Some history
  pub entry : entry_in history receipt.number ≡ Some receipt.entry
  pub stands : place + history.first ≡ entries_before histories receipt.port + receipt.number

-- each mark is what it was, and as many as the receipts that name its entry
abbrev pub GrowBy : List History → List Receipt → List ℕ → List ℕ → Type 0
GrowBy histories receipts before after =
    (port place : ℕ) (history : History) → slice_get histories port ≡ Some history → place < length history.entries
    → slice_index after (entries_before histories port + place)
    ≡ slice_index before (entries_before histories port + place)
    + count_by (names port (history.first + place)) receipts

-- by its mark and the receipts, some entry is named more than once
pub record IsNamedAgain (histories : List History) (receipts : List Receipt) (marks : List ℕ) : Type 0 where
  pub port : ℕ
  pub place : ℕ
  pub history : History
  pub of : slice_get histories port ≡ Some history
  pub within : place < length history.entries
  pub again : 1 < slice_index marks (entries_before histories port + place)
      + count_by (names port (history.first + place)) receipts
