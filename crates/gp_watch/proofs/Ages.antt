-- Who has each Alloc-ID, by the ages of the ONU-IDs.
use Rattle.std.proofs.Common.{◌≡◌, ◌≢◌, ℕ, zero, suc, ◌+◌, ◌==◌, ◌<◌, ◌≤◌, Bool, true, false, cond, not, List, [], ◌∷◌, map, length, get_or, Option, None, Some, inl, inr, refl, sym, ap, subst, ◌∙◌, arith, eq-eqb, replicate}
use Rattle.std.proofs.Math.ListN.{set, length-set}
use Rattle.std.specs.Cmp.{nat_cmp_total}
use Rattle.std.specs.FinMap.{empty, get, insert, remove, retain_keys, same_map, nat_cmp-IsAntisymmetric}
use Rattle.std.proofs.lemmas.Bool.{cases_eq, cases_lt, ne_eqb}
use Rattle.std.proofs.lemmas.List.{map-set, get_or-set_same, get_or-set_other, get_or_past, get_or-replicate, length-replicate, length-map}
use Rattle.gp_observer.specs.Observer.{some_passes}
use Rattle.gp_observer.proofs.Listed.{dropped_at}
use Rattle.gp_watch.specs.declared.owners.Owner.{Owner}
use Rattle.gp_watch.specs.Places.{map_of}
use Rattle.gp_watch.specs.Owners.{owner_at, owners_of, IsPast, ArePast, left_at}
use Rattle.gp_watch.proofs.Places.{get-map_of, map_of-put, map_of-taken, map_of-nothing}

abbrev pub Owned : Type 0
Owned = List (Option Owner)

-- what stands at a place after it is read through a function that keeps nothing
module _ {X Y : Type 0} (f : Option X → Option Y) (none : f None ≡ None) where
  pub get_or-read : (xs : List (Option X)) (q : ℕ) → get_or (map f xs) q None ≡ f (get_or xs q None)
  get_or-read [] q = sym none
  get_or-read (x ∷ xs) zero = refl
  get_or-read (x ∷ xs) (suc q) = get_or-read xs q

-- whom an Alloc-ID belongs to
pub owner_is : (ages : List ℕ) (xs : Owned) (q : ℕ) → owner_at ages (get_or xs q None) ≡ get (owners_of ages xs) q
owner_is ages xs q = sym (get-map_of (map (owner_at ages) xs) q ∙ get_or-read (owner_at ages) refl xs q)

pub owner_past : (ages : List ℕ) (xs : Owned) (q : ℕ) → length xs ≤ q → None ≡ get (owners_of ages xs) q
owner_past ages xs q past = ap (owner_at ages) (sym (get_or_past xs q None past)) ∙ owner_is ages xs q

-- ---- at first

pub owners-none : (ages : List ℕ) (n : ℕ) → owners_of ages (replicate n None) ≡ empty
owners-none ages n =
    map_of-nothing (map (owner_at ages) (replicate n None)) (λ q.
    get_or-read (owner_at ages) refl (replicate n None) q
    ∙ elim (cases_lt q n) [
      | inl low ↦ ap (owner_at ages) (get_or-replicate n q None None low)
      | inr past ↦ ap (owner_at ages) (get_or_past (replicate n None) q None (subst (λ k. k ≤ q) (sym (length-replicate n None)) past))
    ])

pub past-none : (ages : List ℕ) → ArePast ages (replicate 4096 None)
past-none ages = record { long = length-replicate {A = Option Owner} 4096 None; each = λ q. subst (IsPast ages) (sym (none q)) tt }
  where
    none : (q : ℕ) → ◌≡◌ {A = Option Owner} (get_or (replicate 4096 None) q None) None
    none q =
        elim (cases_lt q 4096) [
          | inl low ↦ get_or-replicate 4096 q None None low
          | inr past ↦ get_or_past (replicate 4096 None) q None (subst (λ k. k ≤ q) (sym (length-replicate {A = Option Owner} 4096 None)) past)
        ]

-- ---- a place is written

module _ (ages : List ℕ) (xs : Owned) (is : ArePast ages xs) (k : ℕ) (low : k < 4096) where
  within : k < length xs
  within = omega (arith, is.long, low)

  pub past-set : (o : Option Owner) → IsPast ages o → ArePast ages (set xs k o)
  past-set o past = record {
    long = length-set xs k o ∙ is.long;
    each = λ q. elim (cases_eq q k) [
      | inl same ↦ subst (IsPast ages) (sym (ap (λ j. get_or (set xs k o) j None) same ∙ get_or-set_same xs k o None within)) past
      | inr other ↦ subst (IsPast ages) (sym (get_or-set_other xs k q o None other)) (is.each q)
    ];
  }

  pub owners-given : (n : ℕ) → owners_of ages (set xs k (Some (record { onu = n; age = get_or ages n 0 }))) ≡ insert (owners_of ages xs) k n
  owners-given n =
      let new : Owner = record { onu = n; age = get_or ages n 0 } in
      let here : owner_at ages (Some new) ≡ Some n = ap (λ b. cond b (Some n) None) (eq-eqb (get_or ages n 0) (get_or ages n 0) refl) in
      ap map_of (map-set (owner_at ages) xs k (Some new))
      ∙ ap (λ (o : Option ℕ). map_of (set (map (owner_at ages) xs) k o)) here
      ∙ map_of-put (map (owner_at ages) xs) k n (subst (λ j. k < j) (sym (length-map xs (owner_at ages))) within)

  pub owners-taken : owners_of ages (set xs k None) ≡ remove (owners_of ages xs) k
  owners-taken =
      ap map_of (map-set (owner_at ages) xs k None)
      ∙ map_of-taken (map (owner_at ages) xs) k (subst (λ j. k < j) (sym (length-map xs (owner_at ages))) within)

-- ---- an ONU-ID is given up

abbrev pub of_onu : ℕ → ℕ → Bool
of_onu n other = other == n

none_either : (b : Bool) → ◌≡◌ {A = Option ℕ} (cond b None None) None
none_either true = refl
none_either false = refl

-- what stands at the places after an edit of each is what is left of the map
left_of_map : (ages new : List ℕ) (n : ℕ) (xs ys : Owned)
    → ((q : ℕ) → owner_at new (get_or ys q None) ≡ cond (some_passes (of_onu n) (owner_at ages (get_or xs q None))) None (owner_at ages (get_or xs q None)))
    → owners_of new ys ≡ retain_keys (owners_of ages xs) (λ a. not (some_passes (λ m. m == n) (get (owners_of ages xs) a)))
left_of_map ages new n xs ys each =
    same_map nat_cmp_total nat_cmp-IsAntisymmetric _ _ (λ q.
    sym (owner_is new ys q) ∙ each q ∙ ap (λ (o : Option ℕ). cond (some_passes (of_onu n) o) None o) (owner_is ages xs q)
    ∙ sym (dropped_at (owners_of ages xs) (λ a. some_passes (λ m. m == n) (get (owners_of ages xs) a)) q))

module _ (ages : List ℕ) (n : ℕ) (long : length ages ≡ 256) (low : n < 256) where
  abbrev older : List ℕ
  older = set ages n (get_or ages n 0 + 1)

  older-same : (m : ℕ) → m ≡ n → get_or older m 0 ≡ get_or ages n 0 + 1
  older-same m same = ap (λ j. get_or older j 0) same ∙ get_or-set_same ages n (get_or ages n 0 + 1) 0 (omega (arith, long, low))

  older-other : (m : ℕ) → m ≢ n → get_or older m 0 ≡ get_or ages m 0
  older-other m other = get_or-set_other ages n m (get_or ages n 0 + 1) 0 other

  past-older : (o : Option Owner) → IsPast ages o → IsPast older o
  past-older None h = tt
  past-older (Some owner) h =
      elim (cases_eq owner.onu n) [
        | inl same ↦ (h.0, let now = older-same owner.onu same in let was = ap (λ j. get_or ages j 0) same in let old = h.1 in omega arith)
        | inr other ↦ (h.0, let now = older-other owner.onu other in let old = h.1 in omega arith)
      ]

  owner-older : (o : Option Owner) → IsPast ages o → owner_at older o ≡ cond (some_passes (of_onu n) (owner_at ages o)) None (owner_at ages o)
  owner-older None h = refl
  owner-older (Some owner) h =
      elim (cases_eq owner.onu n) [
        | inl same ↦
            let now = older-same owner.onu same in
            let was = ap (λ j. get_or ages j 0) same in
            let old = h.1 in
            ap (λ b. cond b (Some owner.onu) None) (ne_eqb (get_or older owner.onu 0) owner.age (λ e. omega arith))
            ∙ sym (by_own (get_or ages owner.onu 0 == owner.age) same)
        | inr other ↦
            ap (λ k. cond (k == owner.age) (Some owner.onu) None) (older-other owner.onu other)
            ∙ sym (by_other (get_or ages owner.onu 0 == owner.age) other)
      ]
    where
      by_own : (b : Bool) → owner.onu ≡ n → cond (some_passes (of_onu n) (cond b (Some owner.onu) None)) None (cond b (Some owner.onu) None) ≡ None
      by_own true same = ap (λ b. cond b None (Some owner.onu)) (eq-eqb owner.onu n same)
      by_own false same = refl

      by_other : (b : Bool) → owner.onu ≢ n → cond (some_passes (of_onu n) (cond b (Some owner.onu) None)) None (cond b (Some owner.onu) None) ≡ cond b (Some owner.onu) None
      by_other true other = ap (λ b. cond b None (Some owner.onu)) (ne_eqb owner.onu n other)
      by_other false other = refl

  module _ (xs : Owned) (is : ArePast ages xs) where
    pub still_past : ArePast older xs
    still_past = record { long = is.long; each = λ q. past-older (get_or xs q None) (is.each q) }

    pub owners-older : owners_of older xs ≡ retain_keys (owners_of ages xs) (λ a. not (some_passes (λ m. m == n) (get (owners_of ages xs) a)))
    owners-older = left_of_map ages older n xs xs (λ q. owner-older (get_or xs q None) (is.each q))

-- each place is looked at
module _ (ages : List ℕ) (n : ℕ) where
  past-left : (o : Option Owner) → IsPast ages o → IsPast ages (left_at n o)
  past-left None h = tt
  past-left (Some owner) h = by_test (owner.onu == n)
    where
      by_test : (b : Bool) → IsPast ages (cond b None (Some owner))
      by_test true = tt
      by_test false = h

  owner-left : (o : Option Owner) → owner_at ages (left_at n o) ≡ cond (some_passes (of_onu n) (owner_at ages o)) None (owner_at ages o)
  owner-left None = refl
  owner-left (Some owner) = by_test (owner.onu == n) (get_or ages owner.onu 0 == owner.age) refl refl
    where
      by_test : (b c : Bool) → (owner.onu == n) ≡ b → (get_or ages owner.onu 0 == owner.age) ≡ c
          → owner_at ages (cond b None (Some owner)) ≡ cond (some_passes (of_onu n) (cond c (Some owner.onu) None)) None (cond c (Some owner.onu) None)
      by_test true true e f = sym (ap (λ b. cond b None (Some owner.onu)) e)
      by_test true false e f = refl
      by_test false true e f = ap (λ c. cond c (Some owner.onu) None) f ∙ sym (ap (λ b. cond b None (Some owner.onu)) e)
      by_test false false e f = ap (λ c. cond c (Some owner.onu) None) f

  module _ (xs : Owned) where
    pub past-forgotten : ArePast ages xs → ArePast ages (map (left_at n) xs)
    past-forgotten is = record {
      long = length-map xs (left_at n) ∙ is.long;
      each = λ q. subst (IsPast ages) (sym (get_or-read (left_at n) refl xs q)) (past-left (get_or xs q None) (is.each q));
    }

    pub owners-forgotten : owners_of ages (map (left_at n) xs) ≡ retain_keys (owners_of ages xs) (λ a. not (some_passes (λ m. m == n) (get (owners_of ages xs) a)))
    owners-forgotten =
        left_of_map ages ages n xs (map (left_at n) xs) (λ q. ap (owner_at ages) (get_or-read (left_at n) refl xs q) ∙ owner-left (get_or xs q None))

pub left_twice : (n : ℕ) (o : Option Owner) → left_at n (left_at n o) ≡ left_at n o
left_twice n None = refl
left_twice n (Some owner) = by_test (owner.onu == n) refl
  where
    by_test : (b : Bool) → (owner.onu == n) ≡ b → left_at n (cond b None (Some owner)) ≡ cond b None (Some owner)
    by_test true is = refl
    by_test false is = ap (λ b. cond b None (Some owner)) is

-- where nothing is left to take out nothing is taken out
pub none_left : (n : ℕ) (xs : Owned) → ((i : ℕ) → i < length xs → left_at n (get_or xs i None) ≡ get_or xs i None) → map (left_at n) xs ≡ xs
none_left n [] h = refl
none_left n (x ∷ xs) h = λ i. h 0 (omega arith) i ∷ none_left n xs (λ k less. h (suc k) (omega arith)) i

-- ---- each is an ONU-ID of one octet

pub owners-low : (ages : List ℕ) (xs : Owned) → ArePast ages xs → (a n : ℕ) → get (owners_of ages xs) a ≡ Some n → n < 256
owners-low ages xs is a n has = by_owner (get_or xs a None) (is.each a) (owner_is ages xs a ∙ has)
  where
    one : (x y : ℕ) → Some x ≡ Some y → x ≡ y
    one x y h = cc

    no : (y : ℕ) → ◌≡◌ {A = Option ℕ} None (Some y) → ⊥
    no y h = cc

    by_owner : (o : Option Owner) → IsPast ages o → owner_at ages o ≡ Some n → n < 256
    by_owner None past e = absurd (no n e)
    by_owner (Some owner) past e = by_age (get_or ages owner.onu 0 == owner.age) e
      where
        by_age : (b : Bool) → cond b (Some owner.onu) None ≡ Some n → n < 256
        by_age true h = subst (λ k. k < 256) (one owner.onu n h) past.0
        by_age false h = absurd (no n h)
