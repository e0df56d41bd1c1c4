-- A second pool with the same numbers.
use Rattle.std.proofs.Common.{◌≡◌, ℕ, ◌≤◌, Bool, true, false, IsTrue, cond, ◌||◌, List, None, Some, inl, inr, refl, sym, ap, ◌∙◌, arith}
use Rattle.std.proofs.lemmas.Bool.{cases_lt}
use Rattle.std.specs.Ordering.{nat_cmp}
use Rattle.std.specs.Cmp.{nat_cmp_total}
use Rattle.std.specs.FinMap as map
use Rattle.std.specs.FinSet.{FinSet, contains, contains-union, same_set, union}
use Rattle.gp_pools.specs.Cooling.{cooling_in, left_at}
use Rattle.gp_pools.proofs.Cool.{get-above, get-below}

or_itself : (b : Bool) → (b || b) ≡ b
or_itself true = refl
or_itself false = refl

-- a set with itself
pub union_itself : (s : FinSet nat_cmp) → union s s ≡ s
union_itself s = same_set nat_cmp_total map.nat_cmp-IsAntisymmetric (union s s) s (λ q. contains-union nat_cmp_total s s q ∙ or_itself (contains s q))

-- what a number has left, which cools if it is a member
pub left_of : (members : FinSet nat_cmp) (leaves : List ℕ) (now q : ℕ) (b : Bool) → ((n : ℕ) → IsTrue (contains members n) → n ≤ 253) → contains members q ≡ b
    → cond b (Some (left_at leaves now q)) None ≡ map.get (cooling_in 254 members leaves now) q
left_of members leaves now q b low is = elim (cases_lt q 254) [
  | inl below ↦ ap (λ (x : Bool). cond x (Some (left_at leaves now q)) None) (sym is) ∙ sym (get-below 254 members leaves now q below)
  | inr above ↦ none_of b (λ yes. let l = low q (is ∙ yes) in omega arith) ∙ sym (get-above 254 members leaves now q above)
]
  where
    none_of : (x : Bool) → (x ≡ true → ⊥) → cond x (Some (left_at leaves now q)) None ≡ None
    none_of true never = absurd (never refl)
    none_of false never = refl
