-- Texts that are written one before another.
use Rattle.std.proofs.Common.{◌≡◌, ◌≤◌, ◌+◌, ◌++◌, ℕ, List, drop, length, sym, ap, ◌∙◌, arith, append_assoc}
use Rattle.std.proofs.lemmas.List.{length-append}
use Rattle.gp_trace.specs.Writes.{Writes}

-- a text before another
pub before : (most more : ℕ) (text front : List ℕ) (old mid new : List ℕ) (end at start : ℕ) → Writes most text old end mid at → Writes more front mid at new start
    → Writes (more + most) (front ++ text) old end new start
before most more text front old mid new end at start behind here =
    let long = length-append front text in
    let begins = behind.begins in
    let starts = here.begins in
    let few = behind.short in
    let short = here.short in
    record {
      stands = here.stands ∙ ap (λ (xs : List ℕ). front ++ xs) behind.stands ∙ sym (append_assoc front text (drop end old));
      begins = omega (arith, long);
      short = omega (arith, long);
      size = here.size ∙ behind.size;
    }

-- a greater bound
pub within : (most more : ℕ) (text old new : List ℕ) (end start : ℕ) → most ≤ more → Writes most text old end new start → Writes more text old end new start
within most more text old new end start le w = let short = w.short in record { stands = w.stands; begins = w.begins; short = omega arith; size = w.size }

pub joined : (a b c d e f g h : List ℕ) → a ++ (b ++ (c ++ (d ++ (e ++ (f ++ (g ++ h)))))) ≡ a ++ b ++ c ++ d ++ e ++ f ++ g ++ h
joined a b c d e f g h = simp append_assoc
