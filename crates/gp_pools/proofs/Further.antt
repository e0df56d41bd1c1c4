-- The further Alloc-IDs of a unit after one is put in or taken out.
use Rattle.std.proofs.Common.{◌≡◌, ℕ, ◌-◌, ◌≤◌, ◌<◌, Bool, cond, Option, None, Some, refl, sym, ap, ◌∙◌, inl, inr, arith, is_some, eq-eqb, IsSome, zero, suc}
use Rattle.std.proofs.lemmas.Bool.{cases_eq, false≢true, ne_eqb}
use Rattle.std.specs.Ordering.{nat_cmp}
use Rattle.std.specs.Cmp.{nat_cmp_total, unsigned_tied}
use Rattle.std.specs.FinMap as map
use Rattle.gp_pools.specs.Allocs.{AllocMap, AreFurther}

pub get-insert_same : (m : AllocMap) (k : ℕ) (x : Bool) → map.get (map.insert m k x) k ≡ Some x
get-insert_same m k x = map.get-insert nat_cmp_total m k x k ∙ ap (λ b. cond b (Some x) (map.get m k)) (unsigned_tied k k ∙ eq-eqb k k refl)

pub get-insert_other : (m : AllocMap) (k : ℕ) (x : Bool) (q : ℕ) → (q ≡ k → ⊥) → map.get (map.insert m k x) q ≡ map.get m q
get-insert_other m k x q other = map.get-insert nat_cmp_total m k x q ∙ ap (λ b. cond b (Some x) (map.get m q)) (unsigned_tied q k ∙ ne_eqb q k other)

pub get-remove_same : (m : AllocMap) (k : ℕ) → map.get (map.remove m k) k ≡ None
get-remove_same m k = map.get-remove nat_cmp_total m k k ∙ ap (λ b. cond b None (map.get m k)) (unsigned_tied k k ∙ eq-eqb k k refl)

pub get-remove_other : (m : AllocMap) (k q : ℕ) → (q ≡ k → ⊥) → map.get (map.remove m k) q ≡ map.get m q
get-remove_other m k q other = map.get-remove nat_cmp_total m k q ∙ ap (λ b. cond b None (map.get m q)) (unsigned_tied q k ∙ ne_eqb q k other)

pub further_none : AreFurther map.empty
further_none n has = absurd (false≢true (sym (ap is_some (map.get-empty nat_cmp n)) ∙ has))

pub further_insert : (m : AllocMap) (k : ℕ) (x : Bool) → 256 ≤ k → k ≤ 4095 → AreFurther m → AreFurther (map.insert m k x)
further_insert m k x from to h n has = elim (cases_eq n k) [
  | inl same ↦ (omega arith, omega arith)
  | inr other ↦ h n (ap is_some (sym (get-insert_other m k x n other)) ∙ has)
]

pub further_remove : (m : AllocMap) (k : ℕ) → AreFurther m → AreFurther (map.remove m k)
further_remove m k h n has = elim (cases_eq n k) [
  | inl same ↦ absurd (false≢true (sym (ap is_some (ap (map.get (map.remove m k)) same ∙ get-remove_same m k)) ∙ has))
  | inr other ↦ h n (ap is_some (sym (get-remove_other m k n other)) ∙ has)
]

-- what was taken out and is put in anew
pub insert-remove : (m : AllocMap) (k : ℕ) (x : Bool) → map.insert (map.remove m k) k x ≡ map.insert m k x
insert-remove m k x = map.same_map nat_cmp_total map.nat_cmp-IsAntisymmetric _ _ (λ q. elim (cases_eq q k) [
  | inl same ↦ rw same (get-insert_same (map.remove m k) k x ∙ sym (get-insert_same m k x))
  | inr other ↦ get-insert_other (map.remove m k) k x q other ∙ get-remove_other m k q other ∙ sym (get-insert_other m k x q other)
])

pub len-remove_known : (m : AllocMap) (k : ℕ) → IsSome (map.get m k) → map.len (map.remove m k) ≡ map.len m - 1
len-remove_known m k has = map.len-remove nat_cmp_total m k ∙ ap (λ b. cond b (map.len m - 1) (map.len m)) has

-- a map with a member is not empty
pub some_member : (m : AllocMap) (k : ℕ) → IsSome (map.get m k) → 1 ≤ map.len m
some_member m k has = by_len (map.len m) refl
  where
    by_len : (n : ℕ) → map.len m ≡ n → 1 ≤ map.len m
    by_len zero e = absurd (false≢true (sym (ap is_some (ap (λ (x : AllocMap). map.get x k) (map.empty_of_len m e) ∙ map.get-empty nat_cmp k)) ∙ has))
    by_len (suc n) e = omega arith

-- there is room where it was taken out
pub len-remove_room : (m : AllocMap) (k : ℕ) → map.len m ≤ 8 → (map.get m k ≡ None → map.len m < 8) → map.len (map.remove m k) < 8
len-remove_room m k few room = by_state (map.get m k) refl
  where
    by_state : (o : Option Bool) → map.get m k ≡ o → map.len (map.remove m k) < 8
    by_state None is =
        let same = map.len-remove nat_cmp_total m k ∙ ap (λ (o : Option Bool). cond (is_some o) (map.len m - 1) (map.len m)) is in
        let less = room is in
        omega (arith, same, less)
    by_state (Some b) is =
        let has = ap is_some is in
        let less = len-remove_known m k has in
        let some = some_member m k has in
        omega (arith, less, some, few)
