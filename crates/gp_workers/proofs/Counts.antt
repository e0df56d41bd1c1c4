-- Counts of one entry.
use Rattle.std.proofs.Common.{◌≡◌, ℕ, Bool, cond, [], ◌∷◌, ap, ◌∙◌, sym, add-zero}
use Rattle.std.specs.Prelude.{count_by}
use Rattle.std.proofs.lemmas.List.Sums.{sum_by-cons}
use Rattle.gp_machine.specs.declared.entry.Entry.{Entry}

-- one entry is counted once where it passes the test
pub counted : (p : Entry → Bool) (e : Entry) (b : Bool) (n : ℕ) → n ≡ cond b 1 0 → b ≡ p e → n ≡ count_by p (e ∷ [])
counted p e b n is test = is ∙ ap (λ (w : Bool). cond w 1 0) test ∙ sym (sum_by-cons (λ (x : Entry). cond (p x) 1 0) e [] ∙ add-zero (cond (p e) 1 0))
