-- The line of a port in two pieces.
use Rattle.std.proofs.Common.{◌≡◌, ℕ, List, ◌++◌, append_assoc, Result, OnOk, Ok, Err, ap, ◌∙◌}

-- one piece by a number and a record, and another by the record
pub two_pieces : {P E : Type 0} (front : ℕ → P → List ℕ) (rest : P → List ℕ) (r : Result (Unit {0}) E) (old between new : List ℕ) (n units : ℕ) (a b counts : P)
    → n ≡ units → a ≡ counts → b ≡ counts → between ≡ old ++ front n a → OnOk r (new ≡ between ++ rest b)
    → OnOk r (new ≡ old ++ (front units counts ++ rest counts))
two_pieces front rest (Ok x) old between new n units a b counts is_n is_a is_b first second =
    second ∙ ap (λ (l : List ℕ). l ++ rest b) first ∙ append_assoc old (front n a) (rest b)
    ∙ ap (λ k. old ++ (front k a ++ rest b)) is_n ∙ ap (λ c. old ++ (front units c ++ rest b)) is_a ∙ ap (λ c. old ++ (front units counts ++ rest c)) is_b
two_pieces front rest (Err e) old between new n units a b counts is_n is_a is_b first second = tt
