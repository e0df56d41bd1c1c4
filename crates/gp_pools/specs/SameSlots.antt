-- Rising Alloc-IDs come back from their map into their places: the law by which `Allocs` may be copied and compared.
use Rattle.std.proofs.Common.{◌≡◌, ℕ, suc, ◌<◌, Bool, true, false, List, [], ◌∷◌, length, Option, refl, sym, ap, subst, ◌∙◌, arith}
use Rattle.std.specs.Prelude.{T, ◌&&◌}
use Rattle.std.specs.declared.cmp.Ordering.{Ordering}
use Rattle.std.specs.declared.cmp.Ordering.TheVariants.{Less, Equal, Greater}
use Rattle.std.specs.Ordering.{nat_cmp, is_lt}
use Rattle.std.specs.FinMap.Entries.{below_all}
use Rattle.std.specs.FinMap as fin
use Rattle.std.specs.Cmp.{nat_cmp_total}
use Rattle.std.proofs.lemmas.Cmp.{ranked}
use Rattle.gp_pools.specs.Allocs.{allocs_of, number_at, IsRising}
use Rattle.gp_pools.specs.Slots.{filled, slots_of, AreSlots}

abbrev Entry : Type 0
Entry = ℕ × Bool

pub rising_tail : (e : Entry) (es : List Entry) → IsRising (e ∷ es) → IsRising es
rising_tail e es h = record { rising = λ i j lt within. h.rising (suc i) (suc j) (omega arith) (omega arith) }

less : (a b : ℕ) → a < b → nat_cmp a b ≡ Less
less a b lt = by_order (nat_cmp a b) refl
  where
    by_order : (r : Ordering) → nat_cmp a b ≡ r → nat_cmp a b ≡ Less
    by_order Less e = e
    by_order Equal e = absurd (let is = ranked a b Equal (sym e) in omega arith)
    by_order Greater e = absurd (let is = ranked a b Greater (sym e) in omega arith)

both : (a b : Bool) → T a → T b → T (a && b)
both true b p q = q
both false b p q = p

below_rising : (k : ℕ) (es : List Entry) → ((i : ℕ) → i < length es → k < number_at es i) → T (below_all nat_cmp k es)
below_rising k [] h = tt
below_rising k (e ∷ es) h =
    subst (λ r. T (is_lt r && below_all nat_cmp k es)) (sym (less k e.0 (h 0 (omega arith))))
    (below_rising k es (λ i within. h (suc i) (omega arith)))

pub sorted_rising : (es : List Entry) → IsRising es → T (fin.is_sorted nat_cmp es)
sorted_rising [] h = tt
sorted_rising (e ∷ es) h =
    both _ _ (below_rising e.0 es (λ i within. h.rising 0 (suc i) (omega arith) (omega arith)))
    (sorted_rising es (rising_tail e es h))

pub entries-allocs_of : (es : List Entry) → IsRising es → fin.entries (allocs_of es) ≡ es
entries-allocs_of es h =
    let sorted = sorted_rising es h in
    let same : allocs_of es
    ≡ fin.from_sorted es = fin.same_map nat_cmp_total fin.nat_cmp-IsAntisymmetric (allocs_of es) (fin.from_sorted es)
    (λ q. fin.get-from_entries nat_cmp_total es q ∙ sym (fin.get-from_sorted nat_cmp es q sorted)) in
    ap fin.entries same ∙ fin.entries-from_sorted nat_cmp es sorted

pub same_slots : (slots : List (Option Entry)) → AreSlots slots
    → slots_of (fin.entries (allocs_of (filled slots))) ≡ slots
same_slots slots h = ap slots_of (entries-allocs_of (filled slots) h.rising) ∙ h.first
