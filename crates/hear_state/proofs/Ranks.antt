-- What a search finds among places in order, and what an edit there does to the index.
use Rattle.std.proofs.Common.{◌≡◌, ℕ, zero, suc, ◌+◌, ◌-◌, ◌/◌, ◌^◌, ◌<◌, ◌≤◌, true, false, cond, List, [], ◌∷◌, length, map, None, Some, inl, inr, refl, sym, ap, subst, ◌∙◌, get_or, arith}
use Rattle.std.proofs.lemmas.Bool.{cases_Bool, cases_eq, cases_lt}
use Rattle.std.proofs.Math.ListN.{set, length-set}
use Rattle.std.proofs.lemmas.List.{map-set, get_or-set_same, get_or-set_other}
use Rattle.std.specs.List.{insert}
use Rattle.std.proofs.lemmas.List.Edits.{length-insert, get_or-insert_below, get_or-insert_at, get_or-insert_above}
use Rattle.gp_ploam.specs.declared.message.Serial.{Serial}
use Rattle.hear_state.specs.declared.index.IndexPlace.{IndexPlace}
use Rattle.std.specs.FinMap as fin
use Rattle.gp_ploam.specs.Serials.{serial_cmp, same_serial, serial_of}
use Rattle.gp_ploam.proofs.Serials.{serials_total, serials_exact, same_serial-true, same_number}
use Rattle.hear_state.specs.declared.index.Followed.{Followed}
use Rattle.hear_state.specs.Index.{entry_of, index_of, blank_place, rank_at, changed, changed_at, IsRising, IsPlaceOf, IsGapFor}
use Rattle.std.specs.Option.{option_map}
use Rattle.gp_table.specs.Values.{map_values}
use Rattle.gp_table.proofs.Values.{get-map_values}
use Rattle.gp_table.proofs.Gets.{len-insert_new}
use Rattle.gp_table.proofs.Entries.{IsApart, find, find-cons, find-tail, find_at, from_entries-insert, from_entries-set}

-- ---- the entries of places in order

rising_tail : (p : IndexPlace) (ps : List IndexPlace) → IsRising (p ∷ ps) → IsRising ps
rising_tail p ps h = record { rising = λ i j lt within. h.rising (suc i) (suc j) (omega arith) (omega arith); fits = λ i within. h.fits (suc i) (omega arith) }

-- a serial number whose number is at no place
pub absent : (ps : List IndexPlace) (rank : ℕ) → rank < 2 ^ 64 → ((i : ℕ) → i < length ps → rank_at ps i < 2 ^ 64) → ((i : ℕ) → i < length ps → rank_at ps i ≡ rank → ⊥)
    → find (serial_of rank) (map entry_of ps) ≡ None
absent [] rank small fits none = refl
absent (p ∷ ps) rank small fits none =
    elim (cases_Bool (same_serial (serial_of rank) (serial_of p.rank))) [
      | inl t ↦ absurd (none 0 (omega arith) (sym (same_number rank p.rank small (fits 0 (omega arith)) (same_serial-true (serial_of rank) (serial_of p.rank) t))))
      | inr f ↦ find-tail (serial_of rank) (entry_of p) (map entry_of ps) f ∙ absent ps rank small (λ i within. fits (suc i) (omega arith)) (λ i within. none (suc i) (omega arith))
    ]

-- no serial number stands twice
pub apart : (ps : List IndexPlace) → IsRising ps → IsApart (map entry_of ps)
apart [] h = tt
apart (p ∷ ps) h = (
  absent ps p.rank (h.fits 0 (omega arith)) (λ i within. h.fits (suc i) (omega arith)) (λ i within same. let less : p.rank < rank_at ps i = h.rising 0 (suc i) (omega arith) (omega arith) in omega arith),
  apart ps (rising_tail p ps h),
)

entry_at : (ps : List IndexPlace) (i : ℕ) → i < length ps → get_or (map entry_of ps) i (entry_of blank_place) ≡ entry_of (get_or ps i blank_place)
entry_at [] i within = absurd (omega arith)
entry_at (p ∷ ps) zero within = refl
entry_at (p ∷ ps) (suc i) within = entry_at ps i (omega arith)

length-entries : (ps : List IndexPlace) → length (map entry_of ps) ≡ length ps
length-entries [] = refl
length-entries (p ∷ ps) = ap suc (length-entries ps)

map-insert : (ps : List IndexPlace) (i : ℕ) (p : IndexPlace) → map entry_of (insert ps i p) ≡ insert (map entry_of ps) i (entry_of p)
map-insert ps zero p = refl
map-insert [] (suc i) p = refl
map-insert (q ∷ ps) (suc i) p = ap (λ es. entry_of q ∷ es) (map-insert ps i p)

-- ---- what is found

pub found_followed : (ps : List IndexPlace) (rank i : ℕ) → IsRising ps → IsPlaceOf ps rank i → fin.get (index_of ps) (serial_of rank) ≡ Some (get_or ps i blank_place).followed
found_followed ps rank i h at =
    let within : i < length (map entry_of ps) = rw (length-entries ps) at.within in
    let e = entry_at ps i at.within in
    fin.get-from_entries serials_total (map entry_of ps) (serial_of rank)
    ∙ ap (λ n. find (serial_of n) (map entry_of ps)) (sym at.here)
    ∙ ap (λ (x : Serial × Followed). find x.0 (map entry_of ps)) (sym e)
    ∙ find_at (map entry_of ps) i (entry_of blank_place) (apart ps h) within
    ∙ ap (λ (x : Serial × Followed). Some x.1) e

pub gap_finds_none : (ps : List IndexPlace) (rank i : ℕ) → rank < 2 ^ 64 → IsRising ps → IsGapFor ps rank i → find (serial_of rank) (map entry_of ps) ≡ None
gap_finds_none ps rank i small h gap =
    absent ps rank small h.fits (λ j within same. elim (cases_lt j i) [
      | inl low ↦ let less = gap.before j low in absurd (omega arith)
      | inr high ↦ let more = gap.after j high within in absurd (omega arith)
    ])

pub found_none : (ps : List IndexPlace) (rank i : ℕ) → rank < 2 ^ 64 → IsRising ps → IsGapFor ps rank i → fin.get (index_of ps) (serial_of rank) ≡ None
found_none ps rank i small h gap = fin.get-from_entries serials_total (map entry_of ps) (serial_of rank) ∙ gap_finds_none ps rank i small h gap

-- ---- edits

abbrev rank_of_place : IndexPlace → ℕ
rank_of_place p = p.rank

pub index_of-insert : (ps : List IndexPlace) (rank i : ℕ) (followed : Followed) → rank < 2 ^ 64 → IsRising ps → IsGapFor ps rank i
    → index_of (insert ps i (record { rank = rank; followed = followed })) ≡ fin.insert (index_of ps) (serial_of rank) followed
index_of-insert ps rank i followed small h gap =
    let new : IndexPlace = record { rank = rank; followed = followed } in
    ap (fin.from_entries {R = serial_cmp}) (map-insert ps i new)
    ∙ from_entries-insert (map entry_of ps) i (serial_of rank) followed (gap_finds_none ps rank i small h gap)

-- a place whose number stays
module _ (ps : List IndexPlace) (i : ℕ) (p : IndexPlace) (within : i < length ps) (same : p.rank ≡ rank_at ps i) where
  pub index_of-set : IsRising ps → index_of (set ps i p) ≡ fin.insert (index_of ps) (serial_of p.rank) p.followed
  index_of-set h =
      let inside : i < length (map entry_of ps) = rw (length-entries ps) within in
      let is : (get_or (map entry_of ps) i (entry_of blank_place)).0 ≡ serial_of p.rank = ap (λ (e : Serial × Followed). e.0) (entry_at ps i within) ∙ ap serial_of (sym same) in
      ap (fin.from_entries {R = serial_cmp}) (map-set entry_of ps i p)
      ∙ from_entries-set (map entry_of ps) i (entry_of blank_place) (serial_of p.rank) p.followed (apart ps h) inside is

  rank-set : (j : ℕ) → rank_at (set ps i p) j ≡ rank_at ps j
  rank-set j = elim (cases_eq j i) [
    | inl here ↦ ap (rank_at (set ps i p)) here ∙ ap rank_of_place (get_or-set_same ps i p blank_place within) ∙ same ∙ ap (rank_at ps) (sym here)
    | inr other ↦ ap rank_of_place (get_or-set_other ps i j p blank_place other)
  ]

  pub rising-set : IsRising ps → IsRising (set ps i p)
  rising-set h =
      let long = length-set ps i p in
      record {
        rising = λ j k lt inside. let r = h.rising j k lt (omega arith) in let a = rank-set j in let b = rank-set k in omega arith;
        fits = λ j inside. let f = h.fits j (omega arith) in let a = rank-set j in omega arith;
      }

pub rising-insert : (ps : List IndexPlace) (rank i : ℕ) (followed : Followed) → rank < 2 ^ 64 → IsRising ps → IsGapFor ps rank i → IsRising (insert ps i (record { rank = rank; followed = followed }))
rising-insert ps rank at followed small h gap =
    let p : IndexPlace = record { rank = rank; followed = followed } in
    let new = insert ps at p in
    let long = length-insert ps at p gap.within in
    let below : (i : ℕ) → i < at → rank_at new i ≡ rank_at ps i = λ i low. ap rank_of_place (get_or-insert_below ps at p blank_place i low gap.within) in
    let here : (i : ℕ) → i ≡ at → rank_at new i ≡ rank = λ i e. rw e (ap rank_of_place (get_or-insert_at ps at p blank_place gap.within)) in
    let above : (i : ℕ) → at < i → rank_at new i ≡ rank_at ps (i - 1) = λ i high. subst (λ q. rank_at new q ≡ rank_at ps (i - 1)) {x = i - 1 + 1} (omega arith) (ap rank_of_place (get_or-insert_above ps at p blank_place (i - 1) (omega arith) gap.within)) in
    record {
      rising = λ i j lt within. grind (arith, below i, here i, above i, below j, here j, above j, h.rising i j, h.rising i (j - 1), h.rising (i - 1) (j - 1), gap.before i, gap.after (j - 1));
      fits = λ i within. grind (arith, below i, here i, above i, h.fits i, h.fits (i - 1));
    }

-- a place that is found, with what it has changed
pub changed_found : (ps : List IndexPlace) (rank i : ℕ) (place : IndexPlace) (change : Followed → Followed) → IsRising ps → IsPlaceOf ps rank i → place ≡ get_or ps i blank_place
    → index_of (set ps i (record { rank = place.rank; followed = change place.followed })) ≡ changed (index_of ps) (serial_of rank) change
changed_found ps rank i place change h at is =
    let new : IndexPlace = record { rank = place.rank; followed = change place.followed } in
    let same : place.rank ≡ rank_at ps i = ap rank_of_place is in
    index_of-set ps i new at.within same h
    ∙ ap (λ n. fin.insert (index_of ps) (serial_of n) (change place.followed)) (same ∙ at.here)
    ∙ ap (λ (p : IndexPlace). fin.insert (index_of ps) (serial_of rank) (change p.followed)) is
    ∙ sym (ap (changed_at (index_of ps) (serial_of rank) change) (found_followed ps rank i h at))

pub rising-changed : (ps : List IndexPlace) (rank i : ℕ) (place : IndexPlace) (followed : Followed) → IsRising ps → IsPlaceOf ps rank i → place ≡ get_or ps i blank_place → IsRising (set ps i (record { rank = place.rank; followed = followed }))
rising-changed ps rank i place followed h at is = rising-set ps i (record { rank = place.rank; followed = followed }) at.within (ap rank_of_place is) h

-- ---- every place changed by a function, its number kept

module _ (change : Followed → Followed) where
  abbrev pub each : IndexPlace → IndexPlace
  each p = record { rank = p.rank; followed = change p.followed }

  pub each_ranks : (ps : List IndexPlace) (i : ℕ) → i < length ps → rank_at (map each ps) i ≡ rank_at ps i
  each_ranks [] i within = absurd (omega arith)
  each_ranks (p ∷ ps) zero within = refl
  each_ranks (p ∷ ps) (suc i) within = each_ranks ps i (omega arith)

  pub length-each : (ps : List IndexPlace) → length (map each ps) ≡ length ps
  length-each [] = refl
  length-each (p ∷ ps) = ap suc (length-each ps)

  pub rising-each : (ps : List IndexPlace) → IsRising ps → IsRising (map each ps)
  rising-each ps h =
      let long = length-each ps in
      record {
        rising = λ j k lt inside. let r = h.rising j k lt (omega arith) in let a = each_ranks ps j (omega arith) in let b = each_ranks ps k (omega arith) in omega arith;
        fits = λ j inside. let f = h.fits j (omega arith) in let a = each_ranks ps j (omega arith) in omega arith;
      }

  find-each : (q : Serial) (ps : List IndexPlace) → find q (map entry_of (map each ps)) ≡ option_map change (find q (map entry_of ps))
  find-each q [] = refl
  find-each q (p ∷ ps) =
      find-cons q (entry_of (each p)) (map entry_of (map each ps))
      ∙ ap (cond (same_serial q (serial_of p.rank)) (Some (change p.followed))) (find-each q ps)
      ∙ elim (same_serial q (serial_of p.rank)) as (λ b. cond b (Some (change p.followed)) (option_map change (find q (map entry_of ps))) ≡ option_map change (cond b (Some p.followed) (find q (map entry_of ps)))) [ true ↦ refl | false ↦ refl ]
      ∙ ap (option_map change) (sym (find-cons q (entry_of p) (map entry_of ps)))

  pub index_of-each : (ps : List IndexPlace) → index_of (map each ps) ≡ map_values change (index_of ps)
  index_of-each ps = fin.same_map serials_total serials_exact _ _ (λ q.
      fin.get-from_entries serials_total (map entry_of (map each ps)) q ∙ find-each q ps
      ∙ ap (option_map change) (sym (fin.get-from_entries serials_total (map entry_of ps) q))
      ∙ sym (get-map_values serial_cmp change (index_of ps) q))

-- ---- the search by halves

-- the number's place is among `size` places from `base` on, if it has one
pub record IsHalved (ps : List IndexPlace) (rank base size : ℕ) : Type 0 where
  pub some : 1 ≤ size
  pub within : base + size ≤ length ps
  pub first : 1 ≤ base → rank_at ps base ≤ rank
  pub after : (j : ℕ) → base + size ≤ j → j < length ps → rank < rank_at ps j

pub halved_first : (ps : List IndexPlace) (rank : ℕ) → 1 ≤ length ps → IsHalved ps rank 0 (length ps)
halved_first ps rank some = record { some = some; within = omega arith; first = λ high. absurd (omega arith); after = λ j from to. absurd (omega arith) }

pub halved_up : (ps : List IndexPlace) (rank base size mid : ℕ) → 1 < size → mid ≡ base + size / 2 → rank_at ps mid ≤ rank → IsHalved ps rank base size → IsHalved ps rank mid (size - size / 2)
halved_up ps rank base size mid more is low h = record {
  some = omega arith;
  within = let w = h.within in omega arith;
  first = λ _. low;
  after = λ j from to. h.after j (omega arith) to;
}

pub halved_down : (ps : List IndexPlace) (rank base size mid : ℕ) → IsRising ps → 1 < size → mid ≡ base + size / 2 → rank < rank_at ps mid → IsHalved ps rank base size → IsHalved ps rank base (size - size / 2)
halved_down ps rank base size mid rising more is high h = record {
  some = omega arith;
  within = let w = h.within in omega arith;
  first = h.first;
  after = λ j from to. elim (cases_lt j (base + size)) [
    | inl inside ↦
        elim (cases_lt mid j) [
          | inl past ↦ let more = rising.rising mid j past to in omega arith
          | inr here ↦ let same : j ≡ mid = omega arith in rw same high
        ]
    | inr outside ↦ h.after j outside to
  ];
}

-- one place is left
pub halved_gap_after : (ps : List IndexPlace) (rank base size : ℕ) → IsRising ps → size ≤ 1 → rank_at ps base < rank → IsHalved ps rank base size → IsGapFor ps rank (base + 1)
halved_gap_after ps rank base size rising last low h = record {
  within = let w = h.within in let s = h.some in omega arith;
  before = λ j lt. let w = h.within in let s = h.some in elim (cases_lt j base) [
    | inl less ↦ let l = rising.rising j base less (omega arith) in omega arith
    | inr here ↦ let same : j ≡ base = omega arith in rw same low
  ];
  after = λ j from to. h.after j (omega arith) to;
}

pub halved_gap_here : (ps : List IndexPlace) (rank base size : ℕ) → IsRising ps → size ≤ 1 → rank < rank_at ps base → IsHalved ps rank base size → IsGapFor ps rank base
halved_gap_here ps rank base size rising last high h = record {
  within = let w = h.within in let s = h.some in omega arith;
  before = λ j lt. let f = h.first (omega arith) in absurd (omega arith);
  after = λ j from to. elim (cases_lt base j) [
    | inl past ↦ let l = rising.rising base j past to in omega arith
    | inr here ↦ let same : j ≡ base = omega arith in rw same high
  ];
}

-- ---- how many there are

pub len-index_of : (ps : List IndexPlace) → IsRising ps → fin.len (index_of ps) ≡ length ps
len-index_of [] h = fin.len-empty serial_cmp Followed
len-index_of (p ∷ ps) h =
    ap (λ (m : fin.FinMap serial_cmp Followed). fin.len m) (from_entries-insert (map entry_of ps) 0 (serial_of p.rank) p.followed (apart (p ∷ ps) h).0)
    ∙ len-insert_new (index_of ps) (serial_of p.rank) p.followed (fin.get-from_entries serials_total (map entry_of ps) (serial_of p.rank) ∙ (apart (p ∷ ps) h).0)
    ∙ (let rest = len-index_of ps (rising_tail p ps h) in omega (arith, rest))
