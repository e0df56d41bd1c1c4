-- A pool of numbers as contracts see it (this profile's own rule: G.984.3 says which numbers there are, and not which a
-- unit gets).
use Rattle.std.specs.Prelude.{◌≡◌, ℕ, ◌+◌, ◌-◌, ◌^◌, ◌<◌, ◌≤◌, IsTrue, refl}
use Rattle.std.specs.Coded.{Coded, code_by, coded×, coded_ℕ}
use Rattle.std.specs.Ordering.{nat_cmp}
use Rattle.std.specs.FinSet as set
use Rattle.gp_numbers.specs.Numbers.{IsIn}

-- its numbers go from `first` to `last`; those that are leased and those that are settled are out, at most `limit` in
-- all
pub record Pool : Type 0 where
  pub first : ℕ
  pub last : ℕ
  pub limit : ℕ
  pub leased : set.FinSet nat_cmp
  pub settled : set.FinSet nat_cmp

-- a pool is stored as pairs of its parts
abbrev pub pool_code : Coded Pool
pool_code = code_by (ℕ × (ℕ × (ℕ × (set.FinSet nat_cmp × set.FinSet nat_cmp))))
    (coded× coded_ℕ (coded× coded_ℕ (coded× coded_ℕ (coded× (set.code coded_ℕ) (set.code coded_ℕ)))))
    (λ p. (p.first, (p.last, (p.limit, (p.leased, p.settled)))))
    (λ t. record { first = t.0; last = t.1.0; limit = t.1.1.0; leased = t.1.1.1.0; settled = t.1.1.1.1 })
    (λ _. refl)

-- the pool of these parts
abbrev pub pool_of : ℕ → ℕ → ℕ → set.FinSet nat_cmp → set.FinSet nat_cmp → Pool
pool_of first last limit leased settled =
    record { first = first; last = last; limit = limit; leased = leased; settled = settled }

-- a pool with none of its numbers out
abbrev pub fresh_pool : ℕ → ℕ → ℕ → Pool
fresh_pool first last limit = pool_of first last limit set.empty set.empty

-- the number is leased
abbrev pub IsLeased : Pool → ℕ → Type 0
IsLeased pool number = IsTrue (set.contains pool.leased number)

-- the number is settled
abbrev pub IsSettled : Pool → ℕ → Type 0
IsSettled pool number = IsTrue (set.contains pool.settled number)

-- the number is leased or settled
abbrev pub IsOut : Pool → ℕ → Type 0
IsOut pool number = IsIn pool.leased pool.settled number

-- the number is one of the pool's, and not out
abbrev pub IsFree : Pool → ℕ → Type 0
IsFree pool number = (pool.first ≤ number) × (number ≤ pool.last) × ¬ (IsOut pool number)

-- each of the pool's numbers is out
abbrev pub AreAllOut : Pool → Type 0
AreAllOut pool = (number : ℕ) → pool.first ≤ number → number ≤ pool.last → IsOut pool number

-- how many numbers are out
abbrev pub count_out : Pool → ℕ
count_out pool = set.len pool.leased + set.len pool.settled

-- fewer numbers are out than may be
abbrev pub HasRoom : Pool → Type 0
HasRoom pool = count_out pool < pool.limit

-- the pool with one number leased that was not out
abbrev pub pool_with_lease : Pool → ℕ → Pool
pool_with_lease pool number = record pool { leased = set.insert pool.leased number }

-- the pool with one leased number given back
abbrev pub pool_without_lease : Pool → ℕ → Pool
pool_without_lease pool number = record pool { leased = set.remove pool.leased number }

-- the pool with one leased number settled
abbrev pub pool_with_settled : Pool → ℕ → Pool
pool_with_settled pool number =
    record pool { leased = set.remove pool.leased number; settled = set.insert pool.settled number }

-- the pool with one settled number leased again
abbrev pub pool_with_lease_again : Pool → ℕ → Pool
pool_with_lease_again pool number =
    record pool { leased = set.insert pool.leased number; settled = set.remove pool.settled number }

-- what every pool keeps: no number is both leased and settled, only the pool's own numbers are out, and at most its
-- limit are out; the limit is no more than it has numbers
pub record IsSound (pool : Pool) : Type 0 where
  pub apart : (number : ℕ) → IsLeased pool number → IsSettled pool number → ⊥
  pub leased : (number : ℕ) → IsLeased pool number → (pool.first ≤ number) × (number ≤ pool.last)
  pub settled : (number : ℕ) → IsSettled pool number → (pool.first ≤ number) × (number ≤ pool.last)
  pub few : count_out pool ≤ pool.limit
  pub reach : pool.limit ≤ pool.last + 1 - pool.first

-- a sound pool whose count of numbers out is right, and whose bitmaps reach beyond its last number, to below `end`
pub record IsKeptPool (pool : Pool) (out end : ℕ) : Type 0 where
  pub sound : IsSound pool
  pub counted : out ≡ count_out pool
  pub held : pool.last < end
  pub fits : end ≤ 2 ^ 16

-- the pool with these leased numbers settled: exactly these are leased no more, and are settled
abbrev pub pool_with_all_settled : Pool → set.FinSet nat_cmp → Pool
pool_with_all_settled pool numbers =
    record pool { leased = set.difference pool.leased numbers; settled = set.union pool.settled numbers }

-- the pool with these settled numbers leased again: exactly these are settled no more, and are leased
abbrev pub pool_with_all_leased_again : Pool → set.FinSet nat_cmp → Pool
pool_with_all_leased_again pool numbers =
    record pool { leased = set.union pool.leased numbers; settled = set.difference pool.settled numbers }

-- the pool with these leased numbers given back: exactly these are out no more
abbrev pub pool_without_all : Pool → set.FinSet nat_cmp → Pool
pool_without_all pool numbers = record pool { leased = set.difference pool.leased numbers }
