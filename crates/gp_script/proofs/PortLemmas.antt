-- The first port that admits a serial number.
use Rattle.std.proofs.Common.{◌≡◌, ℕ, ◌+◌, ◌≤◌, Bool, true, false, cond, List, [], ◌∷◌, None, Some, length, suc, refl, arith}
use Rattle.std.specs.List.{position, position_or_len, prefix_len}
use Rattle.std.specs.Option.{unwrap_or}
use Rattle.std.specs.Prelude.{nat_lt}
use Rattle.std.proofs.lemmas.Bool.Decides.{nat_tests}

one_more : (b : Bool) (n len : ℕ) → n ≤ len → cond b (1 + n) 0 ≤ suc len
one_more true n len h = omega arith
one_more false n len h = omega arith

prefix_within : {X : Type 0} (p : X → Bool) (xs : List X) → prefix_len p xs ≤ length xs
prefix_within p [] = omega arith
prefix_within p (x ∷ xs) = one_more (p x) (prefix_len p xs) (length xs) (prefix_within p xs)

place_or_end : (b : Bool) (n len : ℕ) → n ≤ len → nat_lt n len ≡ b → unwrap_or (cond b (Some n) None) len ≡ n
place_or_end true n len within h = refl
place_or_end false n len within h = grind (arith, nat_tests)

-- the place of the first that passes, or the length
pub position_or_end : {X : Type 0} (p : X → Bool) (xs : List X) → unwrap_or (position p xs) (length xs) ≡ position_or_len p xs
position_or_end p xs = place_or_end (nat_lt (position_or_len p xs) (length xs)) (position_or_len p xs) (length xs) (prefix_within _ xs) refl
