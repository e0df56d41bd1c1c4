-- Delays that texts tell.
use Rattle.std.proofs.Common.{◌≡◌, ℕ, ◌<◌, ◌==◌, true, false, List, ◌∷◌, length, Option, None, Some, Err, refl, sym, ap, arith}
use Rattle.std.proofs.lemmas.Bool.Decides.{nat_tests}
use Rattle.std.specs.List.{after_first, before_first, position_or_len}
use Rattle.gp_audit.specs.Delays.{delay_of_all, delay_of_port, delays_after, delays_set, is_equals, told_or}
use Rattle.gp_audit.specs.Texts.{Text}

-- a text without `=` is of all ports
pub of_all : (delays : List ℕ) (text : Text) → position_or_len is_equals text ≡ length text → delays_set delays text ≡ delay_of_all text
unfolding delays_set
of_all delays text none =
    let all : (position_or_len is_equals text == length text) ≡ true = grind (arith, nat_tests, none) in
    rw all refl

-- one with it is of one
pub of_one : (delays : List ℕ) (text : Text) → position_or_len is_equals text < length text
    → delays_set delays text ≡ delay_of_port delays (before_first is_equals text) (after_first is_equals text)
unfolding delays_set
of_one delays text within =
    let one : (position_or_len is_equals text == length text) ≡ false = grind (arith, nat_tests, within) in
    rw one refl

-- a text that tells delays, and those behind it
pub text_told : (delays changed : List ℕ) (text : Text) (texts : List Text) → Some changed ≡ delays_set delays text
    → delays_after delays (text ∷ texts) ≡ delays_after changed texts
text_told delays changed text texts told = ap (λ (found : Option (List ℕ)). told_or text found (λ (next : List ℕ). delays_after next texts)) (sym told)

-- one that tells none
pub text_wrong : (delays : List ℕ) (text : Text) (texts : List Text) → None ≡ delays_set delays text → delays_after delays (text ∷ texts) ≡ Err text
text_wrong delays text texts wrong = ap (λ (found : Option (List ℕ)). told_or text found (λ (next : List ℕ). delays_after next texts)) (sym wrong)
