-- All further Alloc-IDs of a unit at once.
use Rattle.std.proofs.Common.{◌≡◌, ℕ, zero, suc, ◌≤◌, ◌<◌, true, List, [], ◌∷◌, length, Some, sym, ap, subst, ◌∙◌, inl, inr, arith, is_some, nat_eq, IsSome}
use Rattle.std.proofs.lemmas.Bool.{cases_Bool, false≢true, eqb-true}
use Rattle.std.specs.FinMap as map
use Rattle.gp_pools.specs.Pool.{Pool, IsLeased, IsSettled}
use Rattle.gp_pools.specs.Allocs.{AllocMap, AreFurther, AreLeased, AreSettled, number_at}
use Rattle.gp_pools.proofs.Entries.{find, find-head, find-tail}
use Rattle.gp_pools.proofs.AllocPlaces.{Entry}

-- the numbers of the list are those of the map
at_member : (es : List Entry) (i : ℕ) → i < length es → is_some (find (number_at es i) es) ≡ true
at_member [] i within = absurd (omega arith)
at_member (e ∷ es) zero within = ap is_some (find-head e es)
at_member (e ∷ es) (suc i) within = elim (cases_Bool (nat_eq (number_at es i) e.0)) [
  | inl t ↦ ap is_some (subst (λ k. find k (e ∷ es) ≡ Some e.1) (sym (eqb-true (number_at es i) e.0 t)) (find-head e es))
  | inr f ↦ ap is_some (find-tail (number_at es i) e es f) ∙ at_member es i (omega arith)
]

member_at : (es : List Entry) (n : ℕ) → is_some (find n es) ≡ true → (i : ℕ) × (i < length es) × (number_at es i ≡ n)
member_at [] n has = absurd (false≢true has)
member_at (e ∷ es) n has = elim (cases_Bool (nat_eq n e.0)) [
  | inl t ↦ (0, omega arith, sym (eqb-true n e.0 t))
  | inr f ↦ let later = member_at es n (sym (ap is_some (find-tail n e es f)) ∙ has) in (suc later.0, let l = later.1 in omega arith, later.2)
]

pub leased_each : (pool : Pool) (m : AllocMap) (es : List Entry) → es ≡ map.entries m → AreLeased pool m → (i : ℕ) → i < length es → IsLeased pool (number_at es i)
leased_each pool m es same all i within =
    all (number_at es i) (ap is_some (map.get-entries m (number_at es i) ∙ ap (find (number_at es i)) (sym same)) ∙ at_member es i within)

pub settled_each : (pool : Pool) (m : AllocMap) (es : List Entry) → es ≡ map.entries m → AreSettled pool m → (i : ℕ) → i < length es → IsSettled pool (number_at es i)
settled_each pool m es same all i within =
    all (number_at es i) (ap is_some (map.get-entries m (number_at es i) ∙ ap (find (number_at es i)) (sym same)) ∙ at_member es i within)

member : (m : AllocMap) (es : List Entry) (n : ℕ) → es ≡ map.entries m → IsSome (map.get m n) → (i : ℕ) × (i < length es) × (number_at es i ≡ n)
member m es n same has = member_at es n (ap is_some (ap (find n) same ∙ sym (map.get-entries m n)) ∙ has)

pub all_settled : (pool : Pool) (m : AllocMap) (es : List Entry) → es ≡ map.entries m → ((i : ℕ) → i < length es → IsSettled pool (number_at es i)) → AreSettled pool m
all_settled pool m es same each n has = let at = member m es n same has in subst (IsSettled pool) at.2 (each at.0 at.1)

pub all_leased : (pool : Pool) (m : AllocMap) (es : List Entry) → es ≡ map.entries m → ((i : ℕ) → i < length es → IsLeased pool (number_at es i)) → AreLeased pool m
all_leased pool m es same each n has = let at = member m es n same has in subst (IsLeased pool) at.2 (each at.0 at.1)

-- numbers that were settled are the pool's, so they are further Alloc-IDs
pub all_further : (first last : ℕ) (m : AllocMap) (es : List Entry) → es ≡ map.entries m → first ≡ 256 → last ≤ 4095
    → ((i : ℕ) → i < length es → (first ≤ number_at es i) × (number_at es i ≤ last)) → AreFurther m
all_further first last m es same low high each n has =
    let at = member m es n same has in
    let own = each at.0 at.1 in
    let here = at.2 in
    (omega (arith, own.0, here), omega (arith, own.1, here))
