-- The digits of numbers.
use Rattle.std.proofs.Common.{◌≡◌, ◌≤◌, ◌+◌, ◌<◌, ◌^◌, ◌++◌, ℕ, List, drop, length, arith}
use Rattle.std.specs.Fmt.{decimal}
use Rattle.std.proofs.lemmas.Fmt.{length-decimal-le}
use Rattle.gp_trace.specs.Writes.{Writes}

pub few_8 : (n : ℕ) → n < 256 → length (decimal n) ≤ 3
few_8 n h = length-decimal-le 3 n (omega arith) (omega arith) (omega arith)

pub few_16 : (n : ℕ) → n < 65536 → length (decimal n) ≤ 5
few_16 n h = length-decimal-le 5 n (omega arith) (omega arith) (omega arith)

pub few_32 : (n : ℕ) → n < 4294967296 → length (decimal n) ≤ 10
few_32 n h = length-decimal-le 10 n (omega arith) (omega arith) (omega arith)

pub few_64 : (n : ℕ) → n < 18446744073709551616 → length (decimal n) ≤ 20
few_64 n h = length-decimal-le 20 n (omega arith) (omega arith) (omega arith)

-- digits that were written before `end`
pub digits_written : (most number end start : ℕ) (old new : List ℕ) → length (decimal number) ≤ most → start + length (decimal number) ≡ end
    → drop start new ≡ decimal number ++ drop end old → length new ≡ length old → Writes most (decimal number) old end new start
digits_written most number end start old new few begins stands size = record { stands = stands; begins = begins; short = few; size = size }
