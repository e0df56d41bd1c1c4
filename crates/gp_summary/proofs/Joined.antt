-- Pieces that are appended one after another.
use Rattle.std.proofs.Common.{◌≡◌, List, ◌++◌, Result, OnOk, Ok, Err, ap, ◌∙◌, append_assoc}

-- one piece more
pub more : {A : Type 0} (old first between next last : List A) → between ≡ old ++ first → next ≡ between ++ last → next ≡ old ++ (first ++ last)
more old first between next last is then = then ∙ ap (λ (l : List _). l ++ last) is ∙ append_assoc old first last

-- and the last one, which may fail
pub join : {E A : Type 0} (r : Result (Unit {0}) E) (old first between last new : List A)
    → between ≡ old ++ first → OnOk r (new ≡ between ++ last) → OnOk r (new ≡ old ++ (first ++ last))
join (Ok u) old first between last new is then = more old first between new last is then
join (Err e) old first between last new is then = tt
