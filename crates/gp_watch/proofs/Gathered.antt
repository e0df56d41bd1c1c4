-- The rules that are broken, of some and of some more.
use Rattle.std.proofs.Common.{◌≡◌, ℕ, ◌+◌, ◌<◌, ◌≤◌, Bool, true, false, List, [], ◌∷◌, ◌++◌, length, take, get_or, refl, sym, ap, ◌∙◌, arith}
use Rattle.std.proofs.lemmas.List.{take_more, length-append}
use Rattle.gp_observer.specs.declared.rule.Rule.{Rule}
use Rattle.gp_observer.specs.Heard.{broken_of}

pub broken_both : (xs ys : List (Bool × Rule)) → broken_of (xs ++ ys) ≡ broken_of xs ++ broken_of ys
broken_both [] ys = refl
broken_both ((true, rule) ∷ xs) ys = ap (λ (rs : List Rule). rule ∷ rs) (broken_both xs ys)
broken_both ((false, rule) ∷ xs) ys = broken_both xs ys

pub broken_more : (xs : List (Bool × Rule)) (i : ℕ) (d : Bool × Rule) (found : List Rule) → i < length xs → found ≡ broken_of (take i xs)
    → found ++ broken_of (get_or xs i d ∷ []) ≡ broken_of (take (i + 1) xs)
broken_more xs i d found within is =
    ap (λ (rs : List Rule). rs ++ broken_of (get_or xs i d ∷ [])) is
    ∙ sym (broken_both (take i xs) (get_or xs i d ∷ [])) ∙ ap broken_of (sym (take_more xs i d within))

pub few_more : (found : List Rule) (x : Bool × Rule) (i : ℕ) → length found ≤ i → length (found ++ broken_of (x ∷ [])) ≤ i + 1
few_more found (true, rule) i few = let long = length-append found (rule ∷ []) in omega (arith, long)
few_more found (false, rule) i few = let long = length-append found [] in omega (arith, long)

-- the same tests of the same rules
pub same_first : {b c : Bool} {rule : Rule} {xs ys : List (Bool × Rule)} → b ≡ c → xs ≡ ys → ◌≡◌ {A = List (Bool × Rule)} ((b, rule) ∷ xs) ((c, rule) ∷ ys)
same_first {rule = rule} p q = λ i. (p i, rule) ∷ q i
