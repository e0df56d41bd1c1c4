-- What each call of a pool keeps.
use Rattle.std.proofs.Common.{◌≡◌, ℕ, zero, suc, ◌⊎◌, ◌+◌, ◌-◌, ◌^◌, ◌<◌, ◌≤◌, Bool, true, false, ◌||◌, refl, sym, ap, ◌∙◌, inl, inr, arith}
use Rattle.std.proofs.lemmas.Bool.{cases_Bool, cases_lt, false≢true}
use Rattle.std.specs.Ordering.{nat_cmp}
use Rattle.std.specs.FinSet.{empty, insert, contains, contains-empty, len-empty}
use Rattle.gp_numbers.specs.Numbers.{AreAllIn, IsLeastOutside}
use Rattle.gp_pools.specs.Pool.{Pool, AreAllOut, HasRoom, IsFree, IsLeased, IsOut, IsKeptPool, IsSettled, IsSound, count_out, fresh_pool, pool_with_lease, pool_with_lease_again, pool_with_settled, pool_without_lease}
use Rattle.gp_numbers.proofs.Members.{of_insert, of_remove, len-insert_new, len-remove_member}
use Rattle.gp_pools.proofs.Counting.{IsApart, IsWithin, filled, room_for}

or_right : (a b : Bool) → b ≡ true → (a || b) ≡ true
or_right true b e = refl
or_right false b e = e

-- a number that is not out is neither leased nor settled
pub not_leased : (pool : Pool) (n : ℕ) → ¬ (IsOut pool n) → contains pool.leased n ≡ false
not_leased pool n free = elim (cases_Bool (contains pool.leased n)) [
  | inl has ↦ absurd (free (ap (λ b. b || contains pool.settled n) has))
  | inr out ↦ out
]

pub not_settled : (pool : Pool) (n : ℕ) → ¬ (IsOut pool n) → contains pool.settled n ≡ false
not_settled pool n free = elim (cases_Bool (contains pool.settled n)) [
  | inl has ↦ absurd (free (or_right (contains pool.leased n) (contains pool.settled n) has))
  | inr out ↦ out
]

-- and the other way round
pub not_out : (pool : Pool) (n : ℕ) → contains pool.leased n ≡ false → contains pool.settled n ≡ false → ¬ (IsOut pool n)
not_out pool n a b out = false≢true (sym (λ i. a i || b i) ∙ out)

-- a settled number is not leased, nor the other way round
pub settled-not_leased : (pool : Pool) (n : ℕ) → IsSound pool → IsSettled pool n → contains pool.leased n ≡ false
settled-not_leased pool n sound has = elim (cases_Bool (contains pool.leased n)) [
  | inl leased ↦ absurd (sound.apart n leased has)
  | inr out ↦ out
]

pub leased-not_settled : (pool : Pool) (n : ℕ) → IsSound pool → IsLeased pool n → contains pool.settled n ≡ false
leased-not_settled pool n sound has = elim (cases_Bool (contains pool.settled n)) [
  | inl settled ↦ absurd (sound.apart n has settled)
  | inr out ↦ out
]

no_member : (n : ℕ) → contains (empty {R = nat_cmp}) n ≡ true → ⊥
no_member n has = false≢true (sym (contains-empty nat_cmp n) ∙ has)

pub fresh_pool-sound : (first last limit : ℕ) → limit ≤ last + 1 - first → IsSound (fresh_pool first last limit)
fresh_pool-sound first last limit reach = record {
  apart = λ n a b. no_member n a;
  leased = λ n a. absurd (no_member n a);
  settled = λ n a. absurd (no_member n a);
  few = omega (arith, len-empty nat_cmp);
  reach = reach;
}

-- one number leased
pub count-lease : (pool : Pool) (n : ℕ) → IsFree pool n → count_out (pool_with_lease pool n) ≡ count_out pool + 1
count-lease pool n free = omega (arith, len-insert_new pool.leased n (not_leased pool n free.2))

pub lease-sound : (pool : Pool) (n : ℕ) → IsSound pool → count_out pool < pool.limit → IsFree pool n → IsSound (pool_with_lease pool n)
lease-sound pool n sound room free = record {
  apart = λ q a b. elim (of_insert pool.leased n q a) [
    | inl same ↦ false≢true (sym (ap (λ k. contains pool.settled k) same ∙ not_settled pool n free.2) ∙ b)
    | inr was ↦ sound.apart q was b
  ];
  leased = λ q a. elim (of_insert pool.leased n q a) [
    | inl same ↦ let low : pool.first ≤ n = free.0 in let high : n ≤ pool.last = free.1 in (omega arith, omega arith)
    | inr was ↦ sound.leased q was
  ];
  settled = sound.settled;
  few = omega (arith, count-lease pool n free);
  reach = sound.reach;
}

-- one number given back
pub count-give_back : (pool : Pool) (n : ℕ) → IsLeased pool n → count_out (pool_without_lease pool n) + 1 ≡ count_out pool
count-give_back pool n has = omega (arith, len-remove_member pool.leased n has)

pub give_back-sound : (pool : Pool) (n : ℕ) → IsSound pool → IsLeased pool n → IsSound (pool_without_lease pool n)
give_back-sound pool n sound has = record {
  apart = λ q a b. sound.apart q (of_remove pool.leased n q a).1 b;
  leased = λ q a. sound.leased q (of_remove pool.leased n q a).1;
  settled = sound.settled;
  few = omega (arith, count-give_back pool n has, sound.few);
  reach = sound.reach;
}

-- one number settled
pub count-settle : (pool : Pool) (n : ℕ) → IsSound pool → IsLeased pool n → count_out (pool_with_settled pool n) ≡ count_out pool
count-settle pool n sound has =
    omega (arith, len-remove_member pool.leased n has, len-insert_new pool.settled n (leased-not_settled pool n sound has))

pub settle-sound : (pool : Pool) (n : ℕ) → IsSound pool → IsLeased pool n → IsSound (pool_with_settled pool n)
settle-sound pool n sound has = record {
  apart = λ q a b. elim (of_insert pool.settled n q b) [
    | inl same ↦ (of_remove pool.leased n q a).0 same
    | inr was ↦ sound.apart q (of_remove pool.leased n q a).1 was
  ];
  leased = λ q a. sound.leased q (of_remove pool.leased n q a).1;
  settled = λ q b. elim (of_insert pool.settled n q b) [
    | inl same ↦ let at : (pool.first ≤ n) × (n ≤ pool.last) = sound.leased n has in (omega arith, omega arith)
    | inr was ↦ sound.settled q was
  ];
  few = omega (arith, count-settle pool n sound has, sound.few);
  reach = sound.reach;
}

-- one settled number leased again
pub count-lease_again : (pool : Pool) (n : ℕ) → IsSound pool → IsSettled pool n → count_out (pool_with_lease_again pool n) ≡ count_out pool
count-lease_again pool n sound has =
    omega (arith, len-remove_member pool.settled n has, len-insert_new pool.leased n (settled-not_leased pool n sound has))

pub lease_again-sound : (pool : Pool) (n : ℕ) → IsSound pool → IsSettled pool n → IsSound (pool_with_lease_again pool n)
lease_again-sound pool n sound has = record {
  apart = λ q a b. elim (of_insert pool.leased n q a) [
    | inl same ↦ (of_remove pool.settled n q b).0 same
    | inr was ↦ sound.apart q was (of_remove pool.settled n q b).1
  ];
  leased = λ q a. elim (of_insert pool.leased n q a) [
    | inl same ↦ let at : (pool.first ≤ n) × (n ≤ pool.last) = sound.settled n has in (omega arith, omega arith)
    | inr was ↦ sound.leased q was
  ];
  settled = λ q b. sound.settled q (of_remove pool.settled n q b).1;
  few = omega (arith, count-lease_again pool n sound has, sound.few);
  reach = sound.reach;
}

-- numbers that are all out are as many as are out
pub all_out-count : (pool : Pool) → AreAllOut pool → pool.last + 1 - pool.first ≤ count_out pool
all_out-count pool all =
    filled pool.first (pool.last + 1 - pool.first) pool.leased pool.settled (λ k small. all (pool.first + k) (omega arith) (omega arith))

-- below the limit some number is not out
pub some_free : (pool : Pool) (end : ℕ) → IsSound pool → count_out pool < pool.limit → pool.last < end
    → AreAllIn pool.leased pool.settled pool.first end → ⊥
some_free pool end sound room held all = omega (arith, all_out-count pool (λ n low high. all n low (omega arith)), sound.reach)

-- and the least number that is in neither set is one of the pool's
pub least-free : (pool : Pool) (end n : ℕ) → IsSound pool → count_out pool < pool.limit → IsLeastOutside pool.leased pool.settled pool.first end n → IsFree pool n
least-free pool end n sound room least = elim (cases_lt pool.last n) [
  | inl past ↦ absurd (omega (arith, all_out-count pool (λ q low high. least.least q low (omega arith)), sound.reach))
  | inr within ↦ (least.from, within, least.outside)
]

-- where the limit is the number of the pool's numbers, it is reached when all are out
pub limit_is_all : (pool : Pool) → IsSound pool → pool.limit ≡ pool.last + 1 - pool.first → AreAllOut pool → count_out pool ≡ pool.limit
limit_is_all pool sound size all = omega (arith, all_out-count pool all, sound.few)

pub all_at_limit : (pool : Pool) → IsSound pool → pool.limit ≡ pool.last + 1 - pool.first → count_out pool ≡ pool.limit → AreAllOut pool
all_at_limit pool sound size full n low high = elim (cases_Bool (contains pool.leased n || contains pool.settled n)) [
  | inl out ↦ out
  | inr is_not ↦
      let free : IsFree pool n = (low, high, λ out. false≢true (sym is_not ∙ out)) in
      let apart : IsApart (insert pool.leased n) pool.settled = record {
        members = λ q a b. elim (of_insert pool.leased n q a) [
          | inl same ↦ false≢true (sym (ap (λ k. contains pool.settled k) same ∙ not_settled pool n free.2) ∙ b)
          | inr was ↦ sound.apart q was b
        ];
      } in
      let leased : IsWithin (insert pool.leased n) pool.first (pool.last + 1 - pool.first) = record {
        members = λ q a. elim (of_insert pool.leased n q a) [
          | inl same ↦ (omega arith, omega arith)
          | inr was ↦ let at : (pool.first ≤ q) × (q ≤ pool.last) = sound.leased q was in (omega arith, omega arith)
        ];
      } in
      let settled : IsWithin pool.settled pool.first (pool.last + 1 - pool.first) = record {
        members = λ q b. let at : (pool.first ≤ q) × (q ≤ pool.last) = sound.settled q b in (omega arith, omega arith);
      } in
      absurd (omega (arith, count-lease pool n free, room_for pool.first (pool.last + 1 - pool.first) (insert pool.leased n) pool.settled apart leased settled))
]

-- among numbers from the first one some is not out, or all are
search_free : (pool : Pool) (k : ℕ) → ((n : ℕ) × (pool.first ≤ n) × (n < pool.first + k) × (IsOut pool n → ⊥)) ⊎ ((n : ℕ) → pool.first ≤ n → n < pool.first + k → IsOut pool n)
search_free pool zero = inr (λ n from to. absurd (omega arith))
search_free pool (suc k) = elim (search_free pool k) [
  | inl found ↦ inl (found.0, found.1, let below = found.2 in omega arith, found.3)
  | inr all ↦ elim (cases_Bool (contains pool.leased (pool.first + k) || contains pool.settled (pool.first + k))) [
    | inl out ↦ inr (λ n from to. elim (cases_lt n (pool.first + k)) [
      | inl low ↦ all n from low
      | inr high ↦ let same : n ≡ pool.first + k = omega arith in rw same out
    ])
    | inr is_not ↦ inl (pool.first + k, omega arith, omega arith, λ out. false≢true (sym is_not ∙ out))
  ]
]

-- below the limit some number is free
pub room_has_free : (pool : Pool) → IsSound pool → HasRoom pool → (n : ℕ) × IsFree pool n
room_has_free pool sound room = elim (search_free pool (pool.last + 1 - pool.first)) [
  | inl found ↦ let below = found.2 in (found.0, (found.1, omega arith, found.3))
  | inr all ↦ absurd (omega (arith, all_out-count pool (λ n low high. all n low (omega arith)), sound.reach))
]

-- and where the limit is the number of the pool's numbers, a free one is below it
pub free_has_room : (pool : Pool) → IsSound pool → pool.limit ≡ pool.last + 1 - pool.first → (n : ℕ) → IsFree pool n → HasRoom pool
free_has_room pool sound size n free = elim (cases_lt (count_out pool) pool.limit) [
  | inl room ↦ room
  | inr full ↦ let few = sound.few in absurd (free.2 (all_at_limit pool sound size (omega arith) n free.0 free.1))
]

-- the same, counted
pub kept-new : (first last limit end : ℕ) → limit ≤ last + 1 - first → last < end → end ≤ 2 ^ 16 → IsKeptPool (fresh_pool first last limit) 0 end
kept-new first last limit end reach held fits = record {
  sound = fresh_pool-sound first last limit reach;
  counted = omega (arith, len-empty nat_cmp);
  held = held;
  fits = fits;
}

-- below its limit the pool has room
pub has_room : (pool : Pool) (out end : ℕ) → IsKeptPool pool out end → (out ≡ pool.limit → ⊥) → count_out pool < pool.limit
has_room pool out end kept below = omega (arith, kept.counted, kept.sound.few, below)

pub kept-lease : (pool : Pool) (out end n : ℕ) → IsKeptPool pool out end → (out ≡ pool.limit → ⊥) → IsFree pool n → IsKeptPool (pool_with_lease pool n) (out + 1) end
kept-lease pool out end n kept below free = record {
  sound = lease-sound pool n kept.sound (has_room pool out end kept below) free;
  counted = omega (arith, kept.counted, count-lease pool n free);
  held = kept.held;
  fits = kept.fits;
}

pub kept-give_back : (pool : Pool) (out end n : ℕ) → IsKeptPool pool out end → IsLeased pool n → IsKeptPool (pool_without_lease pool n) (out - 1) end
kept-give_back pool out end n kept has = record {
  sound = give_back-sound pool n kept.sound has;
  counted = omega (arith, kept.counted, count-give_back pool n has);
  held = kept.held;
  fits = kept.fits;
}

pub kept-settle : (pool : Pool) (out end n : ℕ) → IsKeptPool pool out end → IsLeased pool n → IsKeptPool (pool_with_settled pool n) out end
kept-settle pool out end n kept has = record {
  sound = settle-sound pool n kept.sound has;
  counted = omega (arith, kept.counted, count-settle pool n kept.sound has);
  held = kept.held;
  fits = kept.fits;
}

pub kept-lease_again : (pool : Pool) (out end n : ℕ) → IsKeptPool pool out end → IsSettled pool n → IsKeptPool (pool_with_lease_again pool n) out end
kept-lease_again pool out end n kept has = record {
  sound = lease_again-sound pool n kept.sound has;
  counted = omega (arith, kept.counted, count-lease_again pool n kept.sound has);
  held = kept.held;
  fits = kept.fits;
}
