-- No two units hold one number, and a disabled serial number holds none.
use Rattle.std.proofs.Common.{◌≡◌, ℕ, ◌≤◌, Bool, true, Option, None, Some, ◌⊎◌, inl, inr, refl, sym, ◌∙◌, arith, is_some}
use Rattle.std.specs.FinMap.{get}
use Rattle.std.specs.FinSet.{contains}
use Rattle.std.proofs.lemmas.Bool.{false≢true}
use Rattle.gp_ploam.specs.declared.message.Serial.{Serial}
use Rattle.gp_unit.specs.declared.row.Row.{Row}
use Rattle.gp_unit.specs.Rows.{has_alloc}
use Rattle.gp_unit.specs.Sound.{IsSoundRow}
use Rattle.gp_machine.specs.State.{PortState, HasRow}
use Rattle.gp_machine.specs.Sound.{IsSound}
use Rattle.gp_laws.specs.Numbers.{NoSharedOnuId, NoSharedAllocId, DisabledHoldsNoOnuId, DisabledHoldsNoAllocId}
use Rattle.gp_laws.proofs.WholeRuns.{every_state}

pub no_shared_onu : NoSharedOnuId
no_shared_onu c p s t n reached h k = (every_state c p reached).units.apart s t h.0 k.0 h.1 k.1 (inl (h.2 ∙ sym k.2))

-- a further Alloc-ID is above each ONU-ID
further_above : (last : ℕ) (row : Row) (a : ℕ) → IsSoundRow last row → has_alloc a row ≡ true → 256 ≤ a
further_above last row a h has = by_alloc (get row.allocs a) refl has
  where
    by_alloc : (o : Option Bool) → get row.allocs a ≡ o → is_some o ≡ true → 256 ≤ a
    by_alloc None is e = absurd (false≢true e)
    by_alloc (Some leaving) is e = (h.ranged a leaving is).0

-- so no unit has as a further one what is an ONU-ID
not_both : (last : ℕ) (row other : Row) (a : ℕ) → IsSoundRow last row → IsSoundRow last other → row.onu ≡ a → has_alloc a other ≡ true → ⊥
not_both last row other a h k default further =
    let high = further_above last other a k further in
    let low = h.low in
    omega arith

pub no_shared_alloc : NoSharedAllocId
no_shared_alloc c p s t a reached h k = by_kind h.2 k.2
  where
    sound : IsSound p
    sound = every_state c p reached

    fits : (x : Serial) (row : Row) → HasRow p.rows x row → IsSoundRow p.config.alloc_last row
    fits x row has = (sound.units.each x row has).fits

    by_kind : (h.0.onu ≡ a) ⊎ (has_alloc a h.0 ≡ true) → (k.0.onu ≡ a) ⊎ (has_alloc a k.0 ≡ true) → s ≡ t
    by_kind (inl m) (inl n) = sound.units.apart s t h.0 k.0 h.1 k.1 (inl (m ∙ sym n))
    by_kind (inr m) (inr n) = sound.units.apart s t h.0 k.0 h.1 k.1 (inr (a, m, n))
    by_kind (inl m) (inr n) = absurd (not_both p.config.alloc_last h.0 k.0 a (fits s h.0 h.1) (fits t k.0 k.1) m n)
    by_kind (inr m) (inl n) = absurd (not_both p.config.alloc_last k.0 h.0 a (fits t k.0 k.1) (fits s h.0 h.1) n m)

-- a disabled serial number has no row
no_row : (p : PortState) (s : Serial) (row : Row) → IsSound p → contains p.disabled s ≡ true → HasRow p.rows s row → ⊥
no_row p s row h disabled has = false≢true (sym (h.units.each s row has).enabled ∙ disabled)

pub disabled_no_onu : DisabledHoldsNoOnuId
disabled_no_onu c p s n reached disabled h = no_row p s h.0 (every_state c p reached) disabled h.1

pub disabled_no_alloc : DisabledHoldsNoAllocId
disabled_no_alloc c p s a reached disabled h = no_row p s h.0 (every_state c p reached) disabled h.1
