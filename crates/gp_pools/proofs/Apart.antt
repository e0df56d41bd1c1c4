-- No number that is out cools, whatever is done.
use Rattle.std.proofs.Common.{◌≡◌, ℕ, Bool, true, false, ◌||◌, Option, None, Some, refl, sym, ap, ◌∙◌, inl, inr, cond, is_some}
use Rattle.std.proofs.lemmas.Bool.{cases_eq, false≢true}
use Rattle.std.specs.Prelude.{nat_le}
use Rattle.std.specs.FinMap as map
use Rattle.std.specs.FinSet.{contains, insert, remove}
use Rattle.gp_numbers.proofs.Members.{contains-insert_other, contains-remove_same, contains-remove_other}
use Rattle.gp_pools.specs.Pool.{IsLeased, IsSettled, IsSound}
use Rattle.gp_pools.specs.Cooling.{FramesLeft}
use Rattle.gp_pools.specs.Onu.{OnuPool, IsApart, IsWarm, onus_with_lease, onus_without_lease, onus_with_settled, onus_with_lease_again, onus_after_frame}
use Rattle.gp_pools.proofs.Pools.{leased-not_settled}
use Rattle.gp_pools.proofs.Cool.{get-insert_other, get-after_frame, left_after_frame}

warm_after : (frames : ℕ) (b : Bool) (cooling : FramesLeft) (n m : ℕ) → (m ≡ n → ⊥) → map.get cooling m ≡ None → map.get (cond b cooling (map.insert cooling n frames)) m ≡ None
warm_after frames true cooling n m other warm = warm
warm_after frames false cooling n m other warm = get-insert_other cooling n frames m other ∙ warm

-- what is out after a lease is given back was out, and is another number
pub apart-give_back : (ids : OnuPool) (n : ℕ) → IsSound ids.pool → IsLeased ids.pool n → IsApart ids → IsApart (onus_without_lease ids n)
apart-give_back ids n sound leased apart m out = elim (cases_eq m n) [
  | inl same ↦
      absurd (false≢true (sym (ap (λ k. contains (remove ids.pool.leased n) k || contains ids.pool.settled k) same
      ∙ ap (λ b. b || contains ids.pool.settled n) (contains-remove_same ids.pool.leased n) ∙ leased-not_settled ids.pool n sound leased) ∙ out))
  | inr other ↦
      warm_after ids.quarantine.frames (nat_le ids.quarantine.frames 0) ids.quarantine.cooling n m other
      (apart m (ap (λ b. b || contains ids.pool.settled m) (sym (contains-remove_other ids.pool.leased n m other)) ∙ out))
]

or_true : (b : Bool) → (b || true) ≡ true
or_true true = refl
or_true false = refl

pub apart-settle : (ids : OnuPool) (n : ℕ) → IsLeased ids.pool n → IsApart ids → IsApart (onus_with_settled ids n)
apart-settle ids n leased apart m out = elim (cases_eq m n) [
  | inl same ↦ apart m (ap (λ k. contains ids.pool.leased k || contains ids.pool.settled k) same ∙ ap (λ b. b || contains ids.pool.settled n) leased)
  | inr other ↦
      apart m (ap (λ b. b || contains ids.pool.settled m) (sym (contains-remove_other ids.pool.leased n m other))
      ∙ ap (λ b. contains (remove ids.pool.leased n) m || b) (sym (contains-insert_other ids.pool.settled n m other)) ∙ out)
]

pub apart-lease_again : (ids : OnuPool) (n : ℕ) → IsSettled ids.pool n → IsApart ids → IsApart (onus_with_lease_again ids n)
apart-lease_again ids n settled apart m out = elim (cases_eq m n) [
  | inl same ↦ apart m (ap (λ k. contains ids.pool.leased k || contains ids.pool.settled k) same ∙ ap (λ b. contains ids.pool.leased n || b) settled ∙ or_true (contains ids.pool.leased n))
  | inr other ↦
      apart m (ap (λ b. b || contains ids.pool.settled m) (sym (contains-insert_other ids.pool.leased n m other))
      ∙ ap (λ b. contains (insert ids.pool.leased n) m || b) (sym (contains-remove_other ids.pool.settled n m other)) ∙ out)
]

pub apart-tick : (ids : OnuPool) → IsApart ids → IsApart (onus_after_frame ids)
apart-tick ids apart m out = get-after_frame ids.quarantine.cooling m ∙ ap left_after_frame (apart m out)

pub apart-lease : (ids : OnuPool) (n : ℕ) → IsWarm ids n → IsApart ids → IsApart (onus_with_lease ids n)
apart-lease ids n warm apart m out = elim (cases_eq m n) [
  | inl same ↦ ap (map.get ids.quarantine.cooling) same ∙ warm
  | inr other ↦ apart m (ap (λ b. b || contains ids.pool.settled m) (sym (contains-insert_other ids.pool.leased n m other)) ∙ out)
]

pub no_value : (o : Option ℕ) → is_some o ≡ false → o ≡ None
no_value None e = refl
no_value (Some k) e = absurd (false≢true (sym e))
