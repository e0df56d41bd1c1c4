-- Serial numbers of which none stands twice, found by putting them in order.
use Rattle.std.proofs.Common.{◌≡◌, ◌≢◌, ℕ, ◌+◌, ◌<◌, ◌≤◌, Bool, true, false, not, ◌&&◌, ◌||◌, ◌-◌, nat_lt, List, [], ◌∷◌, length, inl, inr, refl, sym, ap, ◌∙◌, arith, get_or}
use Rattle.std.specs.Prelude.{IsTrue, ◌↔◌}
use Rattle.std.specs.declared.cmp.Ordering.{Ordering}
use Rattle.std.specs.declared.cmp.Ordering.TheVariants.{Less, Equal, Greater}
use Rattle.std.specs.Ordering.{is_lt, ordering_reverse}
use Rattle.std.specs.List.{IsDistinct, AllPairs, AllByRecursion}
use Rattle.std.specs.List.Sorted.{IsSortedBy, IsPermutation}
use Rattle.std.proofs.lemmas.Bool.{cases_Bool, false≢true, true≢false, and_parts, ltb-true, ltb-false}
use Rattle.std.proofs.lemmas.List.{get_or_default}
use Rattle.std.proofs.lemmas.List.Sorted.{sorted_far, IsPermutation-sym}
use Rattle.std.proofs.lemmas.List.MinMax.{ranks_by}
use Rattle.std.proofs.lemmas.Map.Keys.{IsDistinct-IsPermutation}
use Rattle.std.proofs.lemmas.Map.Made.{AllPairs-from_IsDistinct, IsDistinct-from_AllPairs}
use Rattle.gp_ploam.specs.declared.message.Serial.{Serial}
use Rattle.gp_ploam.specs.Serials.{serial_cmp, same_serial, is_among}
use Rattle.gp_ploam.proofs.Serials.{serials_total, serials_exact, same_serial-true, same_serial-itself}
use Rattle.gp_machine.specs.Config.{NeighboursDiffer, is_distinct}

abbrev pub is_less : Serial → Serial → Bool
is_less a b = is_lt (serial_cmp a b)

-- of two serial numbers that are not in either order both are one
neither_way : (r s : Ordering) → r ≡ ordering_reverse s → is_lt r ≡ false → is_lt s ≡ false → r ≡ Equal
neither_way Less s e f g = absurd (false≢true (sym f))
neither_way Equal s e f g = refl
neither_way Greater Less e f g = absurd (false≢true (sym g))
neither_way Greater Equal e f g = absurd (true≢false (ap is_ge e))
  where
    is_ge : Ordering → Bool
    is_ge Greater = true
    is_ge _ = false
neither_way Greater Greater e f g = absurd (true≢false (ap is_ge e))
  where
    is_ge : Ordering → Bool
    is_ge Greater = true
    is_ge _ = false

tied : (a b : Serial) → is_less a b ≡ false → is_less b a ≡ false → a ≡ b
tied a b f g = serials_exact a b (neither_way (serial_cmp a b) (serial_cmp b a) (serials_total.antisymm a b) f g)

-- in order no two are equal where no neighbours are
pub all_apart : (xs : List Serial) → IsSortedBy is_less xs → NeighboursDiffer xs → AllPairs (λ x y. x ≢ y) xs
all_apart xs up differ i j d l m e =
    let o = ranks_by serials_total (λ (s : Serial). s) in
    let far : is_less (get_or xs j d) (get_or xs (i + 1) d) ≡ false = sorted_far is_less o xs up (i + 1) j d (omega arith) m in
    let near : is_less (get_or xs (i + 1) d) (get_or xs i d) ≡ false = sorted_far is_less o xs up i (i + 1) d (omega arith) (omega arith) in
    differ i d (omega arith) (tied (get_or xs i d) (get_or xs (i + 1) d) (ap (λ x. is_less x (get_or xs (i + 1) d)) e ∙ far) near)

pub neighbours_apart : (xs : List Serial) → AllPairs (λ x y. x ≢ y) xs → NeighboursDiffer xs
neighbours_apart xs apart k d l = apart k (k + 1) d (omega arith) l

decides : (a b : Serial) → (same_serial a b ≡ true) ↔ (a ≡ b)
decides a b = (same_serial-true a b, λ e. ap (same_serial a) (sym e) ∙ same_serial-itself a)

flips : (a b : Serial) → same_serial a b ≡ same_serial b a
flips a b =
    elim (cases_Bool (same_serial a b)) [
      | inl h ↦ h ∙ sym (ap (same_serial b) (same_serial-true a b h) ∙ same_serial-itself b)
      | inr h ↦
          elim (cases_Bool (same_serial b a)) [
            | inl g ↦ absurd (false≢true (sym h ∙ ap (same_serial a) (same_serial-true b a g) ∙ same_serial-itself a))
            | inr g ↦ h ∙ sym g
          ]
    ]

none_among : (s : Serial) (ss : List Serial) → is_among s ss ≡ false → AllByRecursion (λ y. same_serial s y ≡ false) ss
none_among s [] h = tt
none_among s (t ∷ ts) h =
    elim (cases_Bool (same_serial s t)) [
      | inl b ↦ absurd (false≢true (sym h ∙ ap (λ b. b || is_among s ts) b))
      | inr b ↦ (b, none_among s ts (sym (ap (λ b. b || is_among s ts) b) ∙ h))
    ]

not_found : (s : Serial) (ss : List Serial) → AllByRecursion (λ y. same_serial s y ≡ false) ss → is_among s ss ≡ false
not_found s [] h = refl
not_found s (t ∷ ts) h = ap (λ b. b || is_among s ts) h.0 ∙ not_found s ts h.1

distinct_told : (xs : List Serial) → is_distinct xs ≡ true → IsDistinct same_serial xs
unfolding IsDistinct
distinct_told [] h = tt
distinct_told (x ∷ xs) h =
    let parts = and_parts (not (is_among x xs)) (is_distinct xs) h in
    (none_among x xs (not_true (is_among x xs) parts.0), distinct_told xs parts.1)
  where
    not_true : (b : Bool) → not b ≡ true → b ≡ false
    not_true true e = absurd (false≢true e)
    not_true false e = refl

tells_distinct : (xs : List Serial) → IsDistinct same_serial xs → is_distinct xs ≡ true
unfolding IsDistinct
tells_distinct [] h = refl
tells_distinct (x ∷ xs) h = ap (λ b. not b && is_distinct xs) (not_found x xs h.0) ∙ tells_distinct xs h.1

-- none stands twice in a list exactly where, in order, no neighbours are equal
pub distinct_by_order :
    (xs ys : List Serial) (answer : Bool) → IsPermutation xs ys → IsSortedBy is_less ys → IsTrue answer ↔ NeighboursDiffer ys → answer ≡ is_distinct xs
distinct_by_order xs ys answer moved up told =
    elim (cases_Bool (is_distinct xs)) [
      | inl h ↦
          let in_order = IsDistinct-IsPermutation same_serial flips xs ys moved (distinct_told xs h) in
          told.1 (neighbours_apart ys (AllPairs-from_IsDistinct decides ys in_order)) ∙ sym h
      | inr h ↦
          elim (cases_Bool answer) [
            | inl told_so ↦
                let apart = IsDistinct-from_AllPairs decides ys (all_apart ys up (told.0 told_so)) in
                absurd (false≢true (sym h ∙ tells_distinct xs (IsDistinct-IsPermutation same_serial flips ys xs (IsPermutation-sym xs ys moved) apart)))
            | inr denied ↦ denied ∙ sym h
          ]
    ]

no_octets : Serial
no_octets = record { 0 = [] }

-- one neighbour more differs
pub one_more :
    (xs : List Serial) (i : ℕ) → ((k : ℕ) (none : Serial) → k + 1 < i → get_or xs k none ≢ get_or xs (k + 1) none)
    → 1 ≤ i → i < length xs → same_serial (get_or xs (i - 1) (record { 0 = [] })) (get_or xs i (record { 0 = [] })) ≡ false
    → (k : ℕ) (none : Serial) → k + 1 < i + 1 → get_or xs k none ≢ get_or xs (k + 1) none
unfolding no_octets
one_more xs i far first within here k none l =
    elim (cases_Bool (nat_lt (k + 1) i)) [
      | inl b ↦ far k none (ltb-true (k + 1) i b)
      | inr b ↦
          let over : i ≤ k + 1 = ltb-false (k + 1) i b in
          let last : i ≡ k + 1 = omega arith in
          let before : i - 1 ≡ k = omega arith in
          let a = ap (λ n. get_or xs n no_octets) before ∙ get_or_default xs k no_octets none (omega arith) in
          let z = ap (λ n. get_or xs n no_octets) last ∙ get_or_default xs (k + 1) no_octets none (omega arith) in
          λ e. false≢true (sym here ∙ (decides (get_or xs (i - 1) no_octets) (get_or xs i no_octets)).1 (a ∙ e ∙ sym z))
    ]
