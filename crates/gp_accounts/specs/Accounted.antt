-- When receipts and journals tell of the same steps (this profile's own rule).
use Rattle.std.specs.Prelude.{ℕ, ◌≡◌, ◌==◌, ◌&&◌, ◌<◌, ◌+◌, slice_index, List, Bool, Some, All, count_by, map, filter, sum_by, length, slice_get}
use Rattle.gp_machine.specs.declared.entry.Receipt.{Receipt}
use Rattle.gp_journal.specs.Kept.{History, entry_in}

-- the receipt's port has an entry with the receipt's number, and it is the receipt's
pub record IsNamed (histories : List History) (receipt : Receipt) : Type 0 where
  pub history : History
  pub of : slice_get histories receipt.port ≡ Some history
  pub entry : entry_in history receipt.number ≡ Some receipt.entry

-- the receipt is of this port and has this number
abbrev pub names : ℕ → ℕ → Receipt → Bool
names port number receipt = (receipt.port == port) && (receipt.number == number)

-- the numbers of the receipts of a port, in order
abbrev pub numbers_on : ℕ → List Receipt → List ℕ
numbers_on port receipts =
    map (λ receipt. receipt.number) (filter (λ (receipt : Receipt). receipt.port == port) receipts)

-- each number is greater than the one before it
pub record IsRising (numbers : List ℕ) : Type 0 where
  pub steps : (place : ℕ) → place + 1 < length numbers → slice_index numbers place < slice_index numbers (place + 1)

-- a worker's numbers on each port rise
abbrev pub Rises : List Receipt → Type 0
Rises receipts = (port : ℕ) → IsRising (numbers_on port receipts)

-- how many receipts of all workers are of this port and have this number
abbrev pub times_named : List (List Receipt) → ℕ → ℕ → ℕ
times_named workers port number = sum_by (count_by (names port number)) workers

-- each entry of the port's history is named by just one receipt
pub record IsOnceIn (history : History) (workers : List (List Receipt)) (port : ℕ) : Type 0 where
  pub once : (place : ℕ) → place < length history.entries → times_named workers port (history.first + place) ≡ 1

-- the same, of the port's history among all histories
pub record IsOnce (histories : List History) (workers : List (List Receipt)) (port : ℕ) : Type 0 where
  pub in_history : (history : History) → slice_get histories port ≡ Some history → IsOnceIn history workers port

-- each receipt names an entry, the numbers of each worker rise on each port, and each entry is named by just one
-- receipt
pub record Accounted (histories : List History) (workers : List (List Receipt)) : Type 0 where
  pub named : All (All (IsNamed histories)) workers
  pub rising : All Rises workers
  pub once : (port : ℕ) → IsOnce histories workers port
