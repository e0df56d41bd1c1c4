-- What a search finds among Alloc-IDs in order, and what an edit there does to the map.
use Rattle.std.proofs.Common.{◌≡◌, ℕ, suc, ◌+◌, ◌-◌, ◌<◌, ◌≤◌, Bool, false, List, [], ◌∷◌, length, None, Some, Result, Ok, Err, IfOk, IfErr, inl, inr, refl, sym, ap, subst, ◌∙◌, get_or, arith, nat_eq}
use Rattle.std.proofs.lemmas.Bool.{cases_Bool, cases_lt, eqb-true}
use Rattle.std.specs.List.{insert, remove}
use Rattle.std.specs.List.Sorted.{IsSearchInRange, IsBinarySearchResult, IsNonDecreasingBy}
use Rattle.std.specs.Ordering.{nat_cmp, ordering_index}
use Rattle.std.specs.Cmp.{nat_cmp_total}
use Rattle.std.proofs.lemmas.Cmp.{ranked}
use Rattle.std.proofs.lemmas.List.Sorted.{IsNonDecreasingBy-from_default}
use Rattle.std.proofs.lemmas.List.Edits.{length-insert, length-remove, get_or-insert_below, get_or-insert_at, get_or-insert_above, get_or-remove_below, get_or-remove_above}
use Rattle.std.proofs.lemmas.Bool.Decides.{nat_tests}
use Rattle.std.specs.FinMap as fin
use Rattle.gp_pools.specs.Allocs.{allocs_of, number_at, IsRising, IsPlaceOf, IsGapFor}
use Rattle.gp_pools.specs.SameSlots.{rising_tail}
use Rattle.gp_pools.proofs.Entries.{IsApart, find, find-tail, find_at, from_entries-insert, from_entries-remove, len-from_entries}

abbrev pub Entry : Type 0
Entry = ℕ × Bool

abbrev pub nowhere : Entry
nowhere = (0, false)

-- a number that is at no place
pub absent : (es : List Entry) (number : ℕ) → ((i : ℕ) → i < length es → number_at es i ≡ number → ⊥) → find number es ≡ None
absent [] number none = refl
absent (e ∷ es) number none =
    elim (cases_Bool (nat_eq number e.0)) [
      | inl t ↦ absurd (none 0 (omega arith) (sym (eqb-true number e.0 t)))
      | inr f ↦ find-tail number e es f ∙ absent es number (λ i within. none (suc i) (omega arith))
    ]

-- no number stands twice
pub apart : (es : List Entry) → IsRising es → IsApart es
apart [] h = tt
apart (e ∷ es) h = (
  absent es e.0 (λ i within same. let less : e.0 < number_at es i = h.rising 0 (suc i) (omega arith) (omega arith) in omega arith),
  apart es (rising_tail e es h),
)

abbrev number_of : Entry → ℕ
number_of e = e.0

-- ---- what is found

pub found_flag : (es : List Entry) (number i : ℕ) → IsRising es → IsPlaceOf es number i → fin.get (allocs_of es) number ≡ Some (get_or es i nowhere).1
found_flag es number i h at =
    fin.get-from_entries nat_cmp_total es number
    ∙ ap (λ n. find n es) (sym at.here)
    ∙ find_at es i nowhere (apart es h) at.within

pub gap_finds_none : (es : List Entry) (number i : ℕ) → IsRising es → IsGapFor es number i → find number es ≡ None
gap_finds_none es number i h gap =
    absent es number (λ j within same. elim (cases_lt j i) [
      | inl low ↦ let less = gap.before j low in absurd (omega arith)
      | inr high ↦ let more = gap.after j high within in absurd (omega arith)
    ])

pub found_none : (es : List Entry) (number i : ℕ) → IsRising es → IsGapFor es number i → fin.get (allocs_of es) number ≡ None
found_none es number i h gap = fin.get-from_entries nat_cmp_total es number ∙ gap_finds_none es number i h gap

pub len-allocs_of : (es : List Entry) → IsRising es → fin.len (allocs_of es) ≡ length es
len-allocs_of es h = len-from_entries es (apart es h)

-- ---- edits

pub allocs_of-insert : (es : List Entry) (number i : ℕ) (flag : Bool) → IsRising es → IsGapFor es number i → allocs_of (insert es i (number, flag)) ≡ fin.insert (allocs_of es) number flag
allocs_of-insert es number i flag h gap = from_entries-insert es i number flag (gap_finds_none es number i h gap)

pub allocs_of-remove : (es : List Entry) (number i : ℕ) → IsRising es → IsPlaceOf es number i → allocs_of (remove es i) ≡ fin.remove (allocs_of es) number
allocs_of-remove es number i h at =
    from_entries-remove es i nowhere (apart es h) at.within ∙ ap (λ n. fin.remove (allocs_of es) n) at.here

pub rising-insert : (es : List Entry) (number i : ℕ) (flag : Bool) → IsRising es → IsGapFor es number i → IsRising (insert es i (number, flag))
rising-insert es number at flag h gap =
    let e : Entry = (number, flag) in
    let new = insert es at e in
    let long = length-insert es at e gap.within in
    let below : (i : ℕ) → i < at → number_at new i ≡ number_at es i = λ i low. ap number_of (get_or-insert_below es at e nowhere i low gap.within) in
    let here : (i : ℕ) → i ≡ at → number_at new i ≡ number = λ i same. rw same (ap number_of (get_or-insert_at es at e nowhere gap.within)) in
    let above : (i : ℕ) → at < i → number_at new i ≡ number_at es (i - 1) = λ i high. subst (λ q. number_at new q ≡ number_at es (i - 1)) {x = i - 1 + 1} (omega arith) (ap number_of (get_or-insert_above es at e nowhere (i - 1) (omega arith) gap.within)) in
    record {
      rising = λ i j lt within. grind (arith, below i, here i, above i, below j, here j, above j, h.rising i j, h.rising i (j - 1), h.rising (i - 1) (j - 1), gap.before i, gap.after (j - 1));
    }

pub rising-remove : (es : List Entry) (i : ℕ) → i < length es → IsRising es → IsRising (remove es i)
rising-remove es at within h =
    let new = remove es at in
    let long = length-remove es at within in
    let below : (i : ℕ) → i < at → number_at new i ≡ number_at es i = λ i low. ap number_of (get_or-remove_below es at nowhere i low within) in
    let above : (i : ℕ) → at ≤ i → number_at new i ≡ number_at es (i + 1) = λ i high. ap number_of (get_or-remove_above es at nowhere i high within) in
    record {
      rising = λ i j lt inside. grind (arith, below i, above i, below j, above j, h.rising i j, h.rising i (j + 1), h.rising (i + 1) (j + 1));
    }

-- ---- the search

comparisons_rise : (es : List Entry) (number : ℕ) → IsRising es → IsNonDecreasingBy (λ (e : Entry). ordering_index (nat_cmp e.0 number)) es
comparisons_rise es number h = IsNonDecreasingBy-from_default (λ (e : Entry). ordering_index (nat_cmp e.0 number)) es nowhere (λ i j le within.
    let rise : number_at es i ≤ number_at es j = grind (arith, h.rising i j, λ (same : i ≡ j). ap (number_at es) same) in
    grind (arith, nat_tests))

pub searched : (es : List Entry) (number : ℕ) (r : Result ℕ ℕ) → IsRising es → IsSearchInRange r (length es) → IsBinarySearchResult (λ (e : Entry). nat_cmp e.0 number) es r
    → record { found : IfOk r (IsPlaceOf es number); absent : IfErr r (IsGapFor es number) }
searched es number (Ok at) h within equal = record { found = record { within = within; here = ranked _ number _ (sym (equal nowhere)) }; absent = tt }
searched es number (Err at) h within parted = record {
  found = tt;
  absent = record {
    within = within;
    before = λ j lt. ranked _ number _ (sym ((parted (comparisons_rise es number h)).0 j nowhere (omega arith) lt));
    after = λ j le lt. ranked _ number _ (sym ((parted (comparisons_rise es number h)).1 j nowhere le lt));
  };
}
