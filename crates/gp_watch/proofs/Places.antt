-- Maps that are kept as a value or nothing at each place.
use Rattle.std.proofs.Common.{◌≡◌, ◌≢◌, ℕ, zero, suc, ◌==◌, ◌<◌, ◌≤◌, cond, not, List, length, get_or, Option, None, Some, inl, inr, refl, sym, ap, subst, ◌∙◌, arith, eq-eqb, replicate}
use Rattle.std.proofs.Math.ListN.{set}
use Rattle.std.specs.Ordering.{nat_cmp}
use Rattle.std.specs.Cmp.{nat_cmp_total}
use Rattle.std.specs.FinMap.{FinMap, empty, get, insert, remove, retain_keys, get-empty, same_map, nat_cmp-IsAntisymmetric}
use Rattle.std.proofs.lemmas.Bool.{cases_eq, cases_lt, ne_eqb}
use Rattle.std.proofs.lemmas.List.{get_or-set_same, get_or-set_other, get_or_past, get_or-replicate, length-replicate}
use Rattle.gp_watch.specs.Places.{put_if, listed, map_of}
use Rattle.gp_observer.proofs.Listed.{put_same, put_other, removed_same, removed_other, dropped_at}

module _ {X : Type 0} where
  pub same : (m n : FinMap nat_cmp X) → ((q : ℕ) → get m q ≡ get n q) → m ≡ n
  same m n is = same_map nat_cmp_total nat_cmp-IsAntisymmetric m n is

  put_if_here : (o : Option X) (k : ℕ) (m : FinMap nat_cmp X) → get m k ≡ None → get (put_if o k m) k ≡ o
  put_if_here None k m none = none
  put_if_here (Some x) k m none = put_same m k x

  put_if_other : (o : Option X) (k : ℕ) (m : FinMap nat_cmp X) (q : ℕ) → (q ≡ k → ⊥) → get (put_if o k m) q ≡ get m q
  put_if_other None k m q other = refl
  put_if_other (Some x) k m q other = put_other m k x q other

  get-listed_past : (n : ℕ) (xs : List (Option X)) (q : ℕ) → n ≤ q → get (listed n xs) q ≡ None
  unfolding listed
  get-listed_past zero xs q past = get-empty nat_cmp q
  get-listed_past (suc n) xs q past =
      let other : q ≢ n = omega arith in
      put_if_other (get_or xs n None) n (listed n xs) q other ∙ get-listed_past n xs q (omega arith)

  get-listed : (n : ℕ) (xs : List (Option X)) (q : ℕ) → q < n → get (listed n xs) q ≡ get_or xs q None
  unfolding listed
  get-listed zero xs q low = absurd (omega arith)
  get-listed (suc n) xs q low =
      elim (cases_eq q n) [
        | inl is ↦
            ap (λ k. get (put_if (get_or xs n None) n (listed n xs)) k) is ∙ put_if_here (get_or xs n None) n (listed n xs) (get-listed_past n xs n (omega arith))
            ∙ sym (ap (λ k. get_or xs k None) is)
        | inr other ↦ let less : q < n = omega arith in put_if_other (get_or xs n None) n (listed n xs) q other ∙ get-listed n xs q less
      ]

  pub get-map_of : (xs : List (Option X)) (q : ℕ) → get (map_of xs) q ≡ get_or xs q None
  get-map_of xs q =
      elim (cases_lt q (length xs)) [
        | inl low ↦ get-listed (length xs) xs q low
        | inr past ↦ get-listed_past (length xs) xs q past ∙ sym (get_or_past xs q None past)
      ]

  -- a value is put at a place
  pub map_of-put : (xs : List (Option X)) (k : ℕ) (x : X) → k < length xs → map_of (set xs k (Some x)) ≡ insert (map_of xs) k x
  map_of-put xs k x within =
      same _ _
      (λ q.
      elim (cases_eq q k) [
        | inl is ↦
            ap (λ j. get (map_of (set xs k (Some x))) j) is ∙ get-map_of (set xs k (Some x)) k ∙ get_or-set_same xs k (Some x) None within
            ∙ sym (put_same (map_of xs) k x)
            ∙ sym (ap (λ j. get (insert (map_of xs) k x) j) is)
        | inr other ↦
            get-map_of (set xs k (Some x)) q ∙ get_or-set_other xs k q (Some x) None other ∙ sym (get-map_of xs q)
            ∙ sym (put_other (map_of xs) k x q other)
      ])

  -- a place is emptied
  pub map_of-empty : (xs : List (Option X)) (k : ℕ) → k < length xs → map_of (set xs k None) ≡ retain_keys (map_of xs) (λ j. not (j == k))
  map_of-empty xs k within =
      same _ _
      (λ q.
      elim (cases_eq q k) [
        | inl is ↦
            ap (λ j. get (map_of (set xs k None)) j) is ∙ get-map_of (set xs k None) k ∙ get_or-set_same xs k None None within
            ∙ sym (ap (λ b. cond b None (get (map_of xs) q)) (eq-eqb q k is))
            ∙ sym (dropped_at (map_of xs) (λ j. j == k) q)
        | inr other ↦
            get-map_of (set xs k None) q ∙ get_or-set_other xs k q None None other ∙ sym (get-map_of xs q)
            ∙ sym (ap (λ b. cond b None (get (map_of xs) q)) (ne_eqb q k other))
            ∙ sym (dropped_at (map_of xs) (λ j. j == k) q)
      ])

  -- a place is emptied, and nothing else
  pub map_of-taken : (xs : List (Option X)) (k : ℕ) → k < length xs → map_of (set xs k None) ≡ remove (map_of xs) k
  map_of-taken xs k within =
      same _ _
      (λ q.
      elim (cases_eq q k) [
        | inl is ↦
            ap (λ j. get (map_of (set xs k None)) j) is ∙ get-map_of (set xs k None) k ∙ get_or-set_same xs k None None within
            ∙ sym (removed_same (map_of xs) k)
            ∙ sym (ap (λ j. get (remove (map_of xs) k) j) is)
        | inr other ↦
            get-map_of (set xs k None) q ∙ get_or-set_other xs k q None None other ∙ sym (get-map_of xs q)
            ∙ sym (removed_other (map_of xs) k q other)
      ])

  -- all places are empty
  pub map_of-nothing : (xs : List (Option X)) → ((k : ℕ) → get_or xs k None ≡ None) → map_of xs ≡ empty
  map_of-nothing xs none = same _ _ (λ q. get-map_of xs q ∙ none q ∙ sym (get-empty nat_cmp q))

module _ {X : Type 0} where
  pub map_of-none : (n : ℕ) → map_of {X = X} (replicate n None) ≡ empty
  map_of-none n = same _ _ (λ q. get-map_of (replicate n None) q ∙ none q ∙ sym (get-empty nat_cmp q))
    where
      none : (q : ℕ) → ◌≡◌ {A = Option X} (get_or (replicate n None) q None) None
      none q =
          elim (cases_lt q n) [
            | inl low ↦ get_or-replicate n q None None low
            | inr past ↦ get_or_past (replicate n None) q None (subst (λ k. k ≤ q) (sym (length-replicate n None)) past)
          ]

  -- a place is read
  pub reads : (xs : List (Option X)) (n : ℕ) → get_or xs n None ≡ get (map_of xs) n
  reads xs n = sym (get-map_of xs n)

  pub read_past : (xs : List (Option X)) (n : ℕ) → length xs ≤ n → None ≡ get (map_of xs) n
  read_past xs n past = sym (get-map_of xs n ∙ get_or_past xs n None past)
