-- What is written of an object: what stands in the buffer, and what is gathered.
use Rattle.std.proofs.Common.{◌≡◌, ℕ, ◌+◌, ◌-◌, ◌≤◌, List, ◌++◌, append_assoc, length, take, Result, OnOk, Ok, Err, sym, ap, ◌∙◌, length-append}
use Rattle.std.proofs.lemmas.List.{take_at, length-take-le}
use Rattle.std.specs.List.{flat_map}
use borrow.Rule.Slice.PartMut.{post_of, put_mid}
use Rattle.gp_json.specs.Spelling.{escaped}

-- a piece is gathered behind the others
pub gathered_more : (out gathered text piece : List ℕ) (filled : ℕ) → filled ≤ length gathered → piece ≡ text
    → out ++ take (filled + length text) (put_mid filled (filled + length text - filled) gathered piece) ≡ (out ++ take filled gathered) ++ text
gathered_more out gathered text piece filled within same =
    let front = take filled gathered in
    let rest = post_of filled (filled + length text - filled) gathered in
    let long : length (front ++ text) ≡ filled + length text = length-append front text ∙ ap (λ (n : ℕ). n + length text) (length-take-le filled gathered within) in
    let whole : take (filled + length text) ((front ++ text) ++ rest) ≡ front ++ text = take_at (front ++ text) rest (filled + length text) long in
    ap (λ (l : List ℕ). out ++ take (filled + length text) (front ++ (l ++ rest))) same
    ∙ ap (λ (l : List ℕ). out ++ take (filled + length text) l) (sym (append_assoc front text rest)) ∙ ap (λ (l : List ℕ). out ++ l) whole ∙ sym (append_assoc out front text)

-- a part that is spelled as it is
pub put_as_it_is : {E : Type 0} (r : Result (Unit {0}) E) (old new part : List ℕ) → flat_map escaped part ≡ part → OnOk r (new ≡ old ++ part) → OnOk r (new ≡ old ++ flat_map escaped part)
put_as_it_is (Ok x) old new part same is = is ∙ ap (λ (l : List ℕ). old ++ l) (sym same)
put_as_it_is (Err e) old new part same is = tt
