-- A name without its ending.
use Rattle.std.specs.Prelude.{if◌then◌else◌}
use Rattle.std.proofs.Common.{◌≡◌, ◌≢◌, ◌-◌, ℕ, Bool, true, false, List, ◌++◌, Option, None, Some, MatchOption, option_map, refl, sym, ap, ◌∙◌, take, drop, length}
use Rattle.std.proofs.lemmas.List.{append_cancel_left, take-append-drop}
use Rattle.std.proofs.lemmas.Slice.Eq.{bytes_eq-Decides}
use Rattle.std.specs.Borrow.{Bor}
use Rattle.std.specs.Str.{bytes_eq}
use Rattle.std.specs.Str.Pattern.{FindsTextSuffix, StripsSuffix}
use Rattle.gp_folder.specs.Names.{without}

-- the ending stands at the end
ends : (end file : List ℕ) → file ≡ take (length file - length end) file ++ end → without end file ≡ Some (take (length file - length end) file)
ends end file e =
    let k : ℕ = length file - length end in
    let same : drop k file ≡ end = append_cancel_left (take k file) (drop k file) end (take-append-drop k file ∙ e) in
    let yes : bytes_eq (drop k file) end ≡ true = (bytes_eq-Decides (drop k file) end).1 same in
    ap (λ (b : Bool). if b then Some (take k file) else None) yes

-- it stands at no end
other : (end file : List ℕ) → ((front : List ℕ) → file ≢ front ++ end) → (b : Bool) → bytes_eq (drop (length file - length end) file) end ≡ b → without end file ≡ None
other end file h true e =
    let k : ℕ = length file - length end in
    absurd (h (take k file) (sym (take-append-drop k file) ∙ ap (λ l. take k file ++ l) ((bytes_eq-Decides (drop k file) end).0 e)))
other end file h false e = ap (λ (b : Bool). if b then Some (take (length file - length end) file) else None) e

pub stem_is : (end file : List ℕ) (r : Option (Bor (List ℕ))) → MatchOption r (FindsTextSuffix end file None) (λ x. StripsSuffix (FindsTextSuffix end) file x.now)
    → option_map (λ x. x.now) r ≡ without end file
stem_is end file None h = sym (other end file h _ refl)
stem_is end file (Some x) (n, (at, value, text), is, sum) =
    let same : take (length file - n) file ≡ take (length file - length end) file = ap (λ k. take (length file - k) file) at in
    ap (λ (l : List ℕ). Some l) (is ∙ same) ∙ sym (ends end file (value ∙ ap (λ l. l ++ end) same))
