-- Texts that are put together in another order.
use Rattle.std.proofs.Common.{◌≡◌, ◌≢◌, ℕ, false, List, ◌++◌, codes, decimal, append_assoc, inl, inr}
use Rattle.std.proofs.lemmas.Bool.Decides.{eqb_tells}
use Rattle.gp_script.specs.declared.place.TablePlace.{TablePlace}
use Rattle.gp_script.specs.declared.place.TablePlace.TheVariants as places
use Rattle.gp_check.specs.Check.{count_text}
use Rattle.gp_check.specs.Words.{is_top, key_text, table_text}

pub five : (a b c d e : List ℕ) → (((a ++ b) ++ c) ++ d) ++ e ≡ a ++ (b ++ (c ++ (d ++ e)))
five a b c d e = simp append_assoc

pub seven : (a l b d c e m : List ℕ) → ((((a ++ l) ++ b) ++ (d ++ c)) ++ e) ++ m ≡ a ++ (l ++ (b ++ (d ++ (c ++ (e ++ m)))))
seven a l b d c e m = simp append_assoc

-- a key below a table that is not the top
pub key_below : (table : TablePlace) (key : List ℕ) → is_top table ≡ false → key_text table key ≡ table_text table ++ (codes ", " ++ key)
key_below places.Top key h = absurd (cc h)
key_below (places.Port place) key h = append_assoc (table_text (places.Port place)) (codes ", ") key
key_below (places.Unit place) key h = append_assoc (table_text (places.Unit place)) (codes ", ") key
key_below (places.Lose place) key h = append_assoc (table_text (places.Lose place)) (codes ", ") key
key_below (places.Event place) key h = append_assoc (table_text (places.Event place)) (codes ", ") key

-- what is wanted at a place
pub told : (p f w place fault want : List ℕ) → place ≡ p → fault ≡ f → want ≡ w
    → (((p ++ codes ": ") ++ f) ++ codes ", ") ++ w ≡ place ++ (codes ": " ++ (fault ++ (codes ", " ++ want)))
told p f w place fault want at by of = rw (at, by, of) (five p (codes ": ") f (codes ", ") w)

-- one of what is counted, and any other number of them
pub one_told : (count : ℕ) (what : List ℕ) → count ≡ 1 → count_text count what ≡ decimal count ++ (codes " " ++ what)
one_told count what one = rw one (append_assoc (decimal 1) (codes " ") what)

pub many_told : (count : ℕ) (what : List ℕ) → count ≢ 1 → count_text count what ≡ decimal count ++ (codes " " ++ (what ++ codes "s"))
many_told count what many = elim (eqb_tells count 1) [
  | inl one ↦ absurd (many one.1)
  | inr other ↦ rw other.0 (append_assoc (decimal count) (codes " ") (what ++ codes "s"))
]

-- the counts of a script
pub three_counts : (p u e ports units events : List ℕ) → p ≡ ports → u ≡ units → e ≡ events
    → (((ports ++ codes ", ") ++ units) ++ codes ", ") ++ events ≡ p ++ (codes ", " ++ (u ++ (codes ", " ++ e)))
three_counts p u e ports units events is also last = rw (is, also, last) (five ports (codes ", ") units (codes ", ") events)
