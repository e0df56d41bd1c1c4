-- The ONU-IDs of a port as contracts see them, with a quarantine for the freed ones (this profile's own rule).
use Rattle.std.specs.Prelude.{◌≡◌, ℕ, None, refl}
use Rattle.std.specs.Coded.{Coded, code_by, coded×}
use Rattle.std.specs.FinMap as map
use Rattle.gp_ploam.specs.OnuIds.{last_onu}
use Rattle.gp_pools.specs.Pool.{Pool, pool_code, fresh_pool, IsFree, IsOut, HasRoom, pool_with_lease, pool_with_lease_again, pool_with_settled, pool_without_lease}
use Rattle.gp_pools.specs.Cooling.{Quarantine, quarantine_code, fresh_quarantine, quarantine_with, quarantine_after_frame}

-- which are leased and which are settled, and which cool
pub record OnuPool : Type 0 where
  pub pool : Pool
  pub quarantine : Quarantine

-- it is stored as its two parts
abbrev pub onu_pool_code : Coded OnuPool
onu_pool_code =
    code_by (Pool × Quarantine) (coded× pool_code quarantine_code) (λ o. (o.pool, o.quarantine))
    (λ p. record { pool = p.0; quarantine = p.1 }) (λ _. refl)

-- nothing is out and nothing cools
abbrev pub fresh_onu_pool : ℕ → ℕ → OnuPool
fresh_onu_pool most frames = record { pool = fresh_pool 0 last_onu most; quarantine = fresh_quarantine frames }

-- the number does not cool
abbrev pub IsWarm : OnuPool → ℕ → Type 0
IsWarm ids number = map.get ids.quarantine.cooling number ≡ None

-- the number is 0 to 253, is not out and does not cool
abbrev pub IsFreeOnu : OnuPool → ℕ → Type 0
IsFreeOnu ids number = IsFree ids.pool number × IsWarm ids number

-- no number may be taken: none is free, or as many are out as may be
abbrev pub NoneIsFree : OnuPool → Type 0
NoneIsFree ids = (number : ℕ) → IsFreeOnu ids number → HasRoom ids.pool → ⊥

-- some number may be taken
abbrev pub SomeIsFree : OnuPool → Type 0
SomeIsFree ids = (number : ℕ) × IsFreeOnu ids number × HasRoom ids.pool

-- no number that is out cools
abbrev pub IsApart : OnuPool → Type 0
IsApart ids = (number : ℕ) → IsOut ids.pool number → IsWarm ids number

-- one free number leased
abbrev pub onus_with_lease : OnuPool → ℕ → OnuPool
onus_with_lease ids number = record ids { pool = pool_with_lease ids.pool number }

-- one leased number given back, which begins to cool
abbrev pub onus_without_lease : OnuPool → ℕ → OnuPool
onus_without_lease ids number =
    record { pool = pool_without_lease ids.pool number; quarantine = quarantine_with ids.quarantine number }

-- one leased number settled
abbrev pub onus_with_settled : OnuPool → ℕ → OnuPool
onus_with_settled ids number = record ids { pool = pool_with_settled ids.pool number }

-- one settled number leased again
abbrev pub onus_with_lease_again : OnuPool → ℕ → OnuPool
onus_with_lease_again ids number = record ids { pool = pool_with_lease_again ids.pool number }

-- a frame goes by
abbrev pub onus_after_frame : OnuPool → OnuPool
onus_after_frame ids = record ids { quarantine = quarantine_after_frame ids.quarantine }
