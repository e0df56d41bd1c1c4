-- Numbers in quarantine: what a frame does, and how they are kept.
use Rattle.std.proofs.Common.{◌≡◌, ◌≢◌, ℕ, zero, suc, ◌+◌, ◌-◌, ◌%◌, ◌<◌, ◌≤◌, Bool, true, false, cond, List, [], ◌∷◌, length, Option, None, Some, ◌⊎◌, inl, inr, refl, sym, ap, subst, ◌∙◌, arith, get_or, is_some, IsTrue, nat_eq, eq-eqb}
use Rattle.std.proofs.Math.ListN.{set}
use Rattle.std.proofs.lemmas.Bool.{cases_Bool, cases_eq, cases_lt, false≢true, eqb-true, ne_eqb, leb-true, le-leb}
use Rattle.std.proofs.lemmas.List.{get_or-set_same, get_or-set_other}
use Rattle.std.specs.Prelude.{T, if◌then◌else◌, nat_le, ◌&&◌}
use Rattle.std.specs.declared.cmp.Ordering.{Ordering}
use Rattle.std.specs.declared.cmp.Ordering.TheVariants.{Less, Equal, Greater}
use Rattle.std.specs.Ordering.{nat_cmp, eq_by_cmp, is_lt, is_eq}
use Rattle.std.specs.Cmp.{nat_cmp_total, unsigned_tied}
use Rattle.std.specs.FinMap as map
use Rattle.std.specs.FinMap.Entries.{below_all}
use Rattle.std.specs.FinSet as num
use Rattle.gp_numbers.proofs.Members.{contains-insert_same, contains-insert_other, contains-remove_other, of_insert, of_remove}
use Rattle.gp_pools.specs.Cooling.{FramesLeft, Quarantine, quarantine_with, entries_after_frame, cooling_after_frame, left_at, cooling_in, IsCool}

abbrev Members : Type 0
Members = num.FinSet nat_cmp

-- a frame less, or none where that was the last
abbrev pub left_after_frame : Option ℕ → Option ℕ
left_after_frame None = None
left_after_frame (Some left) = if nat_le left 1 then None else Some (left - 1)

-- ---- maps by number

tied : (q k : ℕ) → eq_by_cmp nat_cmp q k ≡ nat_eq q k
tied q k = unsigned_tied q k

pub get-insert_same : (m : FramesLeft) (k x : ℕ) → map.get (map.insert m k x) k ≡ Some x
get-insert_same m k x = map.get-insert nat_cmp_total m k x k ∙ ap (λ b. cond b (Some x) (map.get m k)) (tied k k ∙ eq-eqb k k refl)

pub get-insert_other : (m : FramesLeft) (k x q : ℕ) → q ≢ k → map.get (map.insert m k x) q ≡ map.get m q
get-insert_other m k x q other = map.get-insert nat_cmp_total m k x q ∙ ap (λ b. cond b (Some x) (map.get m q)) (tied q k ∙ ne_eqb q k other)

pub same_frames : (m n : FramesLeft) → ((q : ℕ) → map.get m q ≡ map.get n q) → m ≡ n
same_frames m n same = map.same_map nat_cmp_total map.nat_cmp-IsAntisymmetric m n same

none_is_not_some : (k : ℕ) → ◌≡◌ {A = Option ℕ} None (Some k) → ⊥
none_is_not_some k e = cc

pub lt_leb : (a b : ℕ) → b < a → nat_le a b ≡ false
lt_leb a b more = elim (cases_Bool (nat_le a b)) [
  | inl t ↦ absurd (let l = leb-true a b t in omega arith)
  | inr f ↦ f
]

-- ---- a frame

both_left : (a b : Bool) → T (a && b) → T a
both_left true b p = tt
both_left false b p = p

both_right : (a b : Bool) → T (a && b) → T b
both_right true b p = p
both_right false b p = absurd p

is_less : (o : Ordering) → T (is_lt o) → o ≡ Less
is_less Less p = refl
is_less Equal p = absurd p
is_less Greater p = absurd p

abbrev find : ℕ → List (ℕ × ℕ) → Option ℕ
find q es = map.find nat_cmp q es

below_none : (k : ℕ) (es : List (ℕ × ℕ)) → T (below_all nat_cmp k es) → find k es ≡ None
below_none k [] h = refl
below_none k (e ∷ es) h = ap (λ r. cond (is_eq r) (Some e.1) (find k es)) (is_less (nat_cmp k e.0) (both_left _ _ h)) ∙ below_none k es (both_right _ _ h)

find-cons : (q : ℕ) (e : ℕ × ℕ) (es : List (ℕ × ℕ)) → find q (e ∷ es) ≡ cond (nat_eq q e.0) (Some e.1) (find q es)
find-cons q e es = ap (λ b. cond b (Some e.1) (find q es)) (tied q e.0)

-- what is found after a frame
find-after_frame : (q : ℕ) (es : List (ℕ × ℕ)) → T (map.is_sorted nat_cmp es) → find q (entries_after_frame es) ≡ left_after_frame (find q es)
find-after_frame q [] h = refl
find-after_frame q (e ∷ es) h = by_cases (find-after_frame q es (both_right _ _ h)) (cases_Bool (nat_le e.1 1)) (cases_Bool (nat_eq q e.0))
  where
    later : nat_eq q e.0 ≡ true → find q es ≡ None
    later t = subst (λ k. find k es ≡ None) (sym (eqb-true q e.0 t)) (below_none e.0 es (both_left _ _ h))

    by_cases : find q (entries_after_frame es) ≡ left_after_frame (find q es) → (nat_le e.1 1 ≡ true) ⊎ (nat_le e.1 1 ≡ false) → (nat_eq q e.0 ≡ true) ⊎ (nat_eq q e.0 ≡ false) → find q (entries_after_frame (e ∷ es)) ≡ left_after_frame (find q (e ∷ es))
    by_cases rest (inl last) (inl here) =
        ap (λ b. find q (cond b (entries_after_frame es) ((e.0, e.1 - 1) ∷ entries_after_frame es))) last ∙ rest ∙ ap left_after_frame (later here)
        ∙ sym (ap left_after_frame (find-cons q e es ∙ ap (λ b. cond b (Some e.1) (find q es)) here) ∙ ap (λ b. cond b None (Some (e.1 - 1))) last)
    by_cases rest (inl last) (inr other) =
        ap (λ b. find q (cond b (entries_after_frame es) ((e.0, e.1 - 1) ∷ entries_after_frame es))) last ∙ rest
        ∙ sym (ap left_after_frame (find-cons q e es ∙ ap (λ b. cond b (Some e.1) (find q es)) other))
    by_cases rest (inr more) (inl here) =
        ap (λ b. find q (cond b (entries_after_frame es) ((e.0, e.1 - 1) ∷ entries_after_frame es))) more
        ∙ find-cons q (e.0, e.1 - 1) (entries_after_frame es) ∙ ap (λ b. cond b (Some (e.1 - 1)) (find q (entries_after_frame es))) here
        ∙ sym (ap left_after_frame (find-cons q e es ∙ ap (λ b. cond b (Some e.1) (find q es)) here) ∙ ap (λ b. cond b None (Some (e.1 - 1))) more)
    by_cases rest (inr more) (inr other) =
        ap (λ b. find q (cond b (entries_after_frame es) ((e.0, e.1 - 1) ∷ entries_after_frame es))) more
        ∙ find-cons q (e.0, e.1 - 1) (entries_after_frame es) ∙ ap (λ b. cond b (Some (e.1 - 1)) (find q (entries_after_frame es))) other ∙ rest
        ∙ sym (ap left_after_frame (find-cons q e es ∙ ap (λ b. cond b (Some e.1) (find q es)) other))

pub get-after_frame : (m : FramesLeft) (q : ℕ) → map.get (cooling_after_frame m) q ≡ left_after_frame (map.get m q)
unfolding cooling_after_frame
get-after_frame m q =
    map.get-from_entries nat_cmp_total (entries_after_frame (map.entries m)) q ∙ find-after_frame q (map.entries m) (map.entries_sorted m) ∙ ap left_after_frame (sym (map.get-entries m q))

-- ---- as it is kept

added_here : (b : Bool) (m : FramesLeft) (k x : ℕ) → map.get m k ≡ None → map.get (if b then map.insert m k x else m) k ≡ cond b (Some x) None
added_here true m k x none = get-insert_same m k x
added_here false m k x none = none

added_elsewhere : (b : Bool) (m : FramesLeft) (k x q : ℕ) → q ≢ k → map.get (if b then map.insert m k x else m) q ≡ map.get m q
added_elsewhere true m k x q other = get-insert_other m k x q other
added_elsewhere false m k x q other = refl

pub get-above : (count : ℕ) (members : Members) (leaves : List ℕ) (now q : ℕ) → count ≤ q → map.get (cooling_in count members leaves now) q ≡ None
unfolding cooling_in
get-above zero members leaves now q high = map.get-empty nat_cmp q
get-above (suc n) members leaves now q high =
    added_elsewhere (num.contains members n) (cooling_in n members leaves now) n (left_at leaves now n) q (λ e. omega arith) ∙ get-above n members leaves now q (omega arith)

pub get-below : (count : ℕ) (members : Members) (leaves : List ℕ) (now q : ℕ) → q < count → map.get (cooling_in count members leaves now) q ≡ cond (num.contains members q) (Some (left_at leaves now q)) None
unfolding cooling_in
get-below zero members leaves now q low = absurd (omega arith)
get-below (suc n) members leaves now q low = elim (cases_eq q n) [
  | inl same ↦
      rw same (added_here (num.contains members n) (cooling_in n members leaves now) n (left_at leaves now n) (get-above n members leaves now n (omega arith)))
  | inr other ↦ added_elsewhere (num.contains members n) (cooling_in n members leaves now) n (left_at leaves now n) q other ∙ get-below n members leaves now q (omega arith)
]

-- who cools
pub cools : (members : Members) (leaves : List ℕ) (now q : ℕ) → ((n : ℕ) → IsTrue (num.contains members n) → n ≤ 253) → num.contains members q ≡ is_some (map.get (cooling_in 254 members leaves now) q)
cools members leaves now q low = elim (cases_lt q 254) [
  | inl below ↦ by_test (num.contains members q) ∙ sym (ap is_some (get-below 254 members leaves now q below))
  | inr above ↦ elim (cases_Bool (num.contains members q)) [
    | inl has ↦ absurd (let l = low q has in omega arith)
    | inr out ↦ out ∙ sym (ap is_some (get-above 254 members leaves now q above))
  ]
]
  where
    by_test : (b : Bool) → b ≡ is_some (cond b (Some (left_at leaves now q)) None)
    by_test true = refl
    by_test false = refl

-- nobody
pub nobody_cools : (leaves : List ℕ) (now : ℕ) → cooling_in 254 num.empty leaves now ≡ map.empty
nobody_cools leaves now = same_frames _ _ (λ q. elim (cases_lt q 254) [
  | inl below ↦ get-below 254 num.empty leaves now q below ∙ ap (λ b. cond b (Some (left_at leaves now q)) None) (num.contains-empty nat_cmp q) ∙ sym (map.get-empty nat_cmp q)
  | inr above ↦ get-above 254 num.empty leaves now q above ∙ sym (map.get-empty nat_cmp q)
])

pub cool_fresh : (frames : ℕ) (leaves : List ℕ) → frames ≤ 8000 → ((i : ℕ) → get_or leaves i 0 < 65536) → IsCool frames num.empty leaves 0 0
cool_fresh frames leaves short fits = record {
  short = short;
  low = λ n has. absurd (no_member n has);
  some = λ n has. absurd (no_member n has);
  most = λ n has. absurd (no_member n has);
  later = λ n has. absurd (no_member n has);
  awaited = λ n has. absurd (no_member n has);
  soon = omega arith;
  fits = fits;
}
  where
    no_member : (n : ℕ) → IsTrue (num.contains (num.empty {R = nat_cmp}) n) → ⊥
    no_member n has = false≢true (sym (num.contains-empty nat_cmp n) ∙ has)

-- ---- a number begins to cool

module _ (frames n now : ℕ) (members : Members) (leaves : List ℕ) (long : length leaves ≡ 256) (low : n ≤ 253) (short : frames ≤ 8000) (clock : now < 65536) where
  abbrev stamped : List ℕ
  stamped = set leaves n ((now + frames) % 65536)

  left_here : left_at stamped now n ≡ frames
  left_here =
      let is : get_or stamped n 0 ≡ (now + frames) % 65536 = get_or-set_same leaves n ((now + frames) % 65536) 0 (omega arith) in
      omega arith

  left_elsewhere : (q : ℕ) → q ≢ n → left_at stamped now q ≡ left_at leaves now q
  left_elsewhere q other = ap (λ k. (k + 65536 - now) % 65536) (get_or-set_other leaves n q ((now + frames) % 65536) 0 other)

  pub cooling-begin : cooling_in 254 (num.insert members n) stamped now ≡ map.insert (cooling_in 254 members leaves now) n frames
  cooling-begin = same_frames _ _ (λ q. elim (cases_eq q n) [
    | inl same ↦
        rw same
        (get-below 254 (num.insert members n) stamped now n (omega arith) ∙ ap (λ b. cond b (Some (left_at stamped now n)) None) (contains-insert_same members n)
        ∙ ap Some left_here ∙ sym (get-insert_same (cooling_in 254 members leaves now) n frames))
    | inr other ↦ elim (cases_lt q 254) [
      | inl below ↦
          get-below 254 (num.insert members n) stamped now q below
          ∙ ap (λ b. cond b (Some (left_at stamped now q)) None) (contains-insert_other members n q other)
          ∙ ap (λ k. cond (num.contains members q) (Some k) None) (left_elsewhere q other)
          ∙ sym (get-insert_other (cooling_in 254 members leaves now) n frames q other ∙ get-below 254 members leaves now q below)
      | inr above ↦
          get-above 254 (num.insert members n) stamped now q above
          ∙ sym (get-insert_other (cooling_in 254 members leaves now) n frames q other ∙ get-above 254 members leaves now q above)
    ]
  ])

  pub cool-begin : (wait next : ℕ) → IsCool frames members leaves now wait → 1 ≤ frames → ((wait ≡ 0) × (next ≡ frames)) ⊎ ((wait ≢ 0) × (next ≡ wait)) → IsCool frames (num.insert members n) stamped now next
  cool-begin wait next h some either = record {
    short = h.short;
    low = λ q has. elim (of_insert members n q has) [ inl same ↦ omega arith | inr was ↦ h.low q was ];
    some = λ q has. let at = by_number q has in elim at [ inl new ↦ let e = new.1 in omega arith | inr old ↦ let e = old.1 in let l = h.some q old.0 in omega arith ];
    most = λ q has. let at = by_number q has in elim at [ inl new ↦ let e = new.1 in omega arith | inr old ↦ let e = old.1 in let l = h.most q old.0 in omega arith ];
    later = λ q has. let at = by_number q has in elim at [
      | inl new ↦ let e = new.1 in let s = h.soon in elim either [ inl first ↦ let k = first.1 in omega arith | inr more ↦ let k = more.1 in omega arith ]
      | inr old ↦ let e = old.1 in let l = h.later q old.0 in let a = h.awaited q old.0 in elim either [ inl first ↦ let k = first.0 in absurd (omega arith) | inr more ↦ let k = more.1 in omega arith ]
    ];
    awaited = λ q has. elim either [ inl first ↦ let k = first.1 in omega arith | inr more ↦ let k = more.1 in let z = more.0 in omega arith ];
    soon = let s = h.soon in elim either [ inl first ↦ let k = first.1 in omega arith | inr more ↦ let k = more.1 in omega arith ];
    fits = λ i. elim (cases_eq i n) [
      | inl same ↦ let is : get_or stamped i 0 ≡ (now + frames) % 65536 = rw same (get_or-set_same leaves n ((now + frames) % 65536) 0 (omega arith)) in omega arith
      | inr other ↦ let is = get_or-set_other leaves n i ((now + frames) % 65536) 0 other in let f = h.fits i in omega arith
    ];
  }
    where
      by_number : (q : ℕ) → IsTrue (num.contains (num.insert members n) q) → ((q ≡ n) × (left_at stamped now q ≡ frames)) ⊎ (IsTrue (num.contains members q) × (left_at stamped now q ≡ left_at leaves now q))
      by_number q has = elim (cases_eq q n) [
        | inl same ↦ inl (same, rw same left_here)
        | inr other ↦ inr (sym (contains-insert_other members n q other) ∙ has, left_elsewhere q other)
      ]

-- ---- a frame goes by

-- a number with a frame left has one less
pub left_less : (leaves : List ℕ) (now n : ℕ) → get_or leaves n 0 < 65536 → now < 65536 → 1 ≤ left_at leaves now n → left_at leaves ((now + 1) % 65536) n + 1 ≡ left_at leaves now n
left_less leaves now n stamp clock some = omega arith

-- who stays after a frame
pub record IsAfterFrame (old new : Members) (leaves : List ℕ) (now : ℕ) : Type 0 where
  pub stays : (n : ℕ) → IsTrue (num.contains old n) → left_at leaves now n ≢ 0 → IsTrue (num.contains new n)
  pub were : (n : ℕ) → IsTrue (num.contains new n) → IsTrue (num.contains old n)
  pub left : (n : ℕ) → n ≤ 253 → IsTrue (num.contains new n) → left_at leaves now n ≢ 0

module _ (frames wait now : ℕ) (old new : Members) (leaves : List ℕ) (h : IsCool frames old leaves now wait) (fits : (i : ℕ) → get_or leaves i 0 < 65536) (clock : now < 65536)
    (after : IsAfterFrame old new leaves ((now + 1) % 65536))
  where
    abbrev soonest : ℕ
    soonest = (now + 1) % 65536

    frame_at : (q : ℕ) → q < 254 → cond (num.contains new q) (Some (left_at leaves soonest q)) None ≡ left_after_frame (cond (num.contains old q) (Some (left_at leaves now q)) None)
    frame_at q below = by_cases (cases_Bool (num.contains old q)) (cases_Bool (num.contains new q))
      where
        by_cases : (num.contains old q ≡ true) ⊎ (num.contains old q ≡ false) → (num.contains new q ≡ true) ⊎ (num.contains new q ≡ false)
            → cond (num.contains new q) (Some (left_at leaves soonest q)) None ≡ left_after_frame (cond (num.contains old q) (Some (left_at leaves now q)) None)
        by_cases (inl was) (inl is) =
            let less = left_less leaves now q (fits q) clock (h.some q was) in
            let some = after.left q (omega arith) is in
            let more : nat_le (left_at leaves now q) 1 ≡ false = lt_leb (left_at leaves now q) 1 (omega arith) in
            let same : left_at leaves soonest q ≡ left_at leaves now q - 1 = omega arith in
            ap (λ b. cond b (Some (left_at leaves soonest q)) None) is ∙ ap Some same
            ∙ sym (ap (λ b. left_after_frame (cond b (Some (left_at leaves now q)) None)) was ∙ ap (λ b. cond b None (Some (left_at leaves now q - 1))) more)
        by_cases (inl was) (inr gone) =
            let less = left_less leaves now q (fits q) clock (h.some q was) in
            let none : left_at leaves soonest q ≡ 0 = elim (cases_eq (left_at leaves soonest q) 0) [
              | inl none ↦ none
              | inr some ↦ absurd (false≢true (sym gone ∙ after.stays q was some))
            ] in
            let last : nat_le (left_at leaves now q) 1 ≡ true = le-leb (left_at leaves now q) 1 (omega arith) in
            ap (λ b. cond b (Some (left_at leaves soonest q)) None) gone
            ∙ sym (ap (λ b. left_after_frame (cond b (Some (left_at leaves now q)) None)) was ∙ ap (λ b. cond b None (Some (left_at leaves now q - 1))) last)
        by_cases (inr out) (inl is) = absurd (false≢true (sym out ∙ after.were q is))
        by_cases (inr out) (inr gone) =
            ap (λ b. cond b (Some (left_at leaves soonest q)) None) gone ∙ sym (ap (λ b. left_after_frame (cond b (Some (left_at leaves now q)) None)) out)

    pub cooling-tick : cooling_in 254 new leaves soonest ≡ cooling_after_frame (cooling_in 254 old leaves now)
    cooling-tick = same_frames _ _ (λ q. elim (cases_lt q 254) [
      | inl below ↦ get-below 254 new leaves soonest q below ∙ frame_at q below ∙ sym (get-after_frame (cooling_in 254 old leaves now) q ∙ ap left_after_frame (get-below 254 old leaves now q below))
      | inr above ↦ get-above 254 new leaves soonest q above ∙ sym (get-after_frame (cooling_in 254 old leaves now) q ∙ ap left_after_frame (get-above 254 old leaves now q above))
    ])

    pub cool-tick : (next : ℕ) → ((n : ℕ) → n ≤ 253 → IsTrue (num.contains new n) → next ≤ left_at leaves soonest n) → ((n : ℕ) → n ≤ 253 → IsTrue (num.contains new n) → 1 ≤ next) → next ≤ frames → IsCool frames new leaves soonest next
    cool-tick next later awaited soon = record {
      short = h.short;
      low = λ n has. h.low n (after.were n has);
      some = λ n has. let some = after.left n (h.low n (after.were n has)) has in omega arith;
      most = λ n has. let was = after.were n has in let less = left_less leaves now n (fits n) clock (h.some n was) in let most = h.most n was in omega arith;
      later = λ n has. later n (h.low n (after.were n has)) has;
      awaited = λ n has. awaited n (h.low n (after.were n has)) has;
      soon = soon;
      fits = h.fits;
    }

-- ---- the numbers are looked at one by one

-- so far as the numbers below `k` were looked at
pub record IsSeen (old new : Members) (leaves : List ℕ) (now k wait : ℕ) : Type 0 where
  pub stays : (n : ℕ) → IsTrue (num.contains old n) → left_at leaves now n ≢ 0 → IsTrue (num.contains new n)
  pub ahead : (n : ℕ) → k ≤ n → IsTrue (num.contains old n) → IsTrue (num.contains new n)
  pub were : (n : ℕ) → IsTrue (num.contains new n) → IsTrue (num.contains old n)
  pub left : (n : ℕ) → n < k → IsTrue (num.contains new n) → left_at leaves now n ≢ 0
  pub later : (n : ℕ) → n < k → IsTrue (num.contains new n) → wait ≤ left_at leaves now n
  pub awaited : (n : ℕ) → n < k → IsTrue (num.contains new n) → 1 ≤ wait
  pub soon : (most : ℕ) → ((n : ℕ) → n ≤ 253 → IsTrue (num.contains old n) → left_at leaves now n ≤ most) → wait ≤ most

pub seen_none : (old : Members) (leaves : List ℕ) (now : ℕ) → IsSeen old old leaves now 0 0
seen_none old leaves now = record {
  stays = λ n has some. has;
  ahead = λ n high has. has;
  were = λ n has. has;
  left = λ n low has zero. omega arith;
  later = λ n low has. omega arith;
  awaited = λ n low has. absurd (omega arith);
  soon = λ most bound. omega arith;
}

-- the next number is a member with no frame left
pub seen_out : (old new : Members) (leaves : List ℕ) (now k wait : ℕ) → left_at leaves now k ≡ 0 → IsSeen old new leaves now k wait → IsSeen old (num.remove new k) leaves now (k + 1) wait
seen_out old new leaves now k wait out h = record {
  stays = λ n has some. contains-remove_other new k n (λ same. some (ap (λ j. left_at leaves now j) same ∙ out)) ∙ h.stays n has some;
  ahead = λ n high has. contains-remove_other new k n (λ same. omega arith) ∙ h.ahead n (omega arith) has;
  were = λ n has. h.were n (of_remove new k n has).1;
  left = λ n low has none. let kept = of_remove new k n has in h.left n (below n low kept.0) kept.1 none;
  later = λ n low has. let kept = of_remove new k n has in h.later n (below n low kept.0) kept.1;
  awaited = λ n low has. let kept = of_remove new k n has in h.awaited n (below n low kept.0) kept.1;
  soon = h.soon;
}
  where
    below : (n : ℕ) → n < k + 1 → (n ≡ k → ⊥) → n < k
    below n low other = elim (cases_lt n k) [ inl less ↦ less | inr more ↦ absurd (other (omega arith)) ]

-- the next number is a member that stays
pub seen_stay : (old new : Members) (leaves : List ℕ) (now k wait next : ℕ) → k ≤ 253 → IsTrue (num.contains new k) → 1 ≤ left_at leaves now k
    → 1 ≤ next → next ≤ left_at leaves now k → (wait ≢ 0 → next ≤ wait) → ((most : ℕ) → wait ≤ most → left_at leaves now k ≤ most → next ≤ most)
    → IsSeen old new leaves now k wait → IsSeen old new leaves now (k + 1) next
seen_stay old new leaves now k wait next within member some one less sooner either h = record {
  stays = h.stays;
  ahead = λ n high has. h.ahead n (omega arith) has;
  were = h.were;
  left = λ n low has none. elim (cases_lt n k) [ inl before ↦ h.left n before has none | inr from ↦ let same : n ≡ k = omega arith in let here = ap (λ j. left_at leaves now j) same in omega arith ];
  later = λ n low has. elim (cases_lt n k) [
    | inl before ↦ let l = h.later n before has in let a = h.awaited n before has in let s = sooner (λ e. omega arith) in omega arith
    | inr from ↦ let same : n ≡ k = omega arith in let here = ap (λ j. left_at leaves now j) same in omega arith
  ];
  awaited = λ n low has. one;
  soon = λ most bound. either most (h.soon most bound) (bound k within (h.were k member));
}

-- the next number is no member
pub seen_past : (old new : Members) (leaves : List ℕ) (now k wait : ℕ) → num.contains new k ≡ false → IsSeen old new leaves now k wait → IsSeen old new leaves now (k + 1) wait
seen_past old new leaves now k wait out h = record {
  stays = h.stays;
  ahead = λ n high has. h.ahead n (omega arith) has;
  were = h.were;
  left = λ n low has none. h.left n (below n low has) has none;
  later = λ n low has. h.later n (below n low has) has;
  awaited = λ n low has. h.awaited n (below n low has) has;
  soon = h.soon;
}
  where
    below : (n : ℕ) → n < k + 1 → IsTrue (num.contains new n) → n < k
    below n low has = elim (cases_lt n k) [ inl less ↦ less | inr more ↦ absurd (false≢true (sym out ∙ ap (num.contains new) (let same : k ≡ n = omega arith in same) ∙ has)) ]

-- the frames that a member has left, as they are computed
pub left_is : (leaves : List ℕ) (now n at : ℕ) → at ≡ n → now < 65536 → (get_or leaves at 0 + (65536 - now)) % 65536 ≡ left_at leaves now n
left_is leaves now n at same clock = ap (λ k. (get_or leaves k 0 + (65536 - now)) % 65536) same ∙ ap (λ k. k % 65536) (let e : get_or leaves n 0 + (65536 - now) ≡ get_or leaves n 0 + 65536 - now = omega arith in e)

-- a quarantine by its parts
pub of_frames : (frames : ℕ) (a b : FramesLeft) → a ≡ b → ◌≡◌ {A = Quarantine} (record { frames = frames; cooling = a }) (record { frames = frames; cooling = b })
of_frames frames a b e = ap (λ (m : FramesLeft). let q : Quarantine = record { frames = frames; cooling = m } in q) e

pub begins : (frames : ℕ) (old new : FramesLeft) (n : ℕ) → nat_le frames 0 ≡ false → new ≡ map.insert old n frames → ◌≡◌ {A = Quarantine} (record { frames = frames; cooling = new }) (quarantine_with (record { frames = frames; cooling = old }) n)
begins frames old new n some e = of_frames frames new _ (e ∙ ap (λ b. cond b old (map.insert old n frames)) (sym some))

-- where each has more than one frame left all stay
pub all_stay : (frames wait now : ℕ) (members : Members) (leaves : List ℕ) → IsCool frames members leaves now wait → ((i : ℕ) → get_or leaves i 0 < 65536) → now < 65536
    → ((n : ℕ) → IsTrue (num.contains members n) → 2 ≤ wait) → IsAfterFrame members members leaves ((now + 1) % 65536)
all_stay frames wait now members leaves h fits clock two = record {
  stays = λ n has some. has;
  were = λ n has. has;
  left = λ n low has none. let some = h.some n has in let less = left_less leaves now n (fits n) clock some in let l = h.later n has in let t = two n has in omega arith;
}
