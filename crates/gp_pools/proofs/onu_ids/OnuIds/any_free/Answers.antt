use Rattle.std.proofs.Common.{◌≡◌, ℕ, ◌↔◌, IsTrue, IfNone, IfSome, false, Option, None, Some, refl, sym, ap, ◌∙◌, is_some}
use Rattle.std.proofs.lemmas.Bool.{false≢true}
use Rattle.std.specs.FinMap as map
use Rattle.std.specs.FinSet as set
use Rattle.std.specs.Ordering.{nat_cmp}
use Rattle.gp_pools.specs.Pool.{IsFree, HasRoom}
use Rattle.gp_pools.specs.Onu.{OnuPool, SomeIsFree}
use Rattle.gp_pools.proofs.Apart.{no_value}
use Rattle.gp_pools.proofs.onu_ids.OnuIds.any_free.Goals as goal

-- a number that is found is free, and where none is found none is
exact : (ids : OnuPool) (members : set.FinSet nat_cmp) (found : Option ℕ) → ((n : ℕ) → set.contains members n ≡ is_some (map.get ids.quarantine.cooling n))
    → IfNone found ((n : ℕ) → IsFree ids.pool n → set.contains members n ≡ false → HasRoom ids.pool → ⊥) → IfSome found (IsFree ids.pool)
    → IfSome found (λ n. set.contains members n ≡ false) → IfSome found (λ _. HasRoom ids.pool) → IsTrue (is_some found) ↔ SomeIsFree ids
exact ids members None cool none free clear room = (
  λ is. absurd (false≢true is),
  λ some. absurd (none some.0 some.1.0 (cool some.0 ∙ ap is_some some.1.1) some.2),
)
exact ids members (Some n) cool none free clear room = (
  λ _. (n, (free, no_value (map.get ids.quarantine.cooling n) (sym (cool n) ∙ clear)), room),
  λ _. refl,
)

pub returns : goal.returns
returns c =
    let q = c.self.inside in
    rw (← c.self.view_is, c.is_some.ensures)
    (exact (record { pool = q.pool; quarantine = q.cooling }) c.members.result.now c.least_free.result c.members.ensures c.least_free.ensures.none c.least_free.ensures.free c.least_free.ensures.unbarred c.least_free.ensures.room)
