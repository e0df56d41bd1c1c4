-- The frames that each ONU-ID has left, as a list of counts.
use Rattle.std.proofs.Common.{◌≡◌, ℕ, ◌-◌, ◌<◌, ◌≤◌, cond, length, map, replicate, get_or, Option, None, Some, inl, inr, refl, sym, ap, ◌∙◌, arith}
use Rattle.std.proofs.Math.ListN.{set, length-set}
use Rattle.std.proofs.lemmas.Bool.{cases_Bool, cases_eq}
use Rattle.std.proofs.lemmas.Bool.Decides.{nat_tests}
use Rattle.std.proofs.lemmas.Grind.{same_number_lists}
use Rattle.std.proofs.lemmas.List.{length-map, get_or-map, get_or-set_same, get_or-set_other, get_or-replicate}
use Rattle.std.proofs.lemmas.List.FromFn.{get_or-map-range_with_len, length-map-range_with_len}
use Rattle.std.specs.Prelude.{nat_le}
use Rattle.std.specs.FinMap as fin
use Rattle.std.specs.Ordering.{nat_cmp}
use Rattle.gp_pools.specs.Cooling.{FramesLeft, Quarantine, cooling_after_frame, quarantine_with}
use Rattle.gp_pools.proofs.Cool.{get-after_frame, get-insert_same, get-insert_other, left_after_frame}
use Rattle.gp_ploam.specs.OnuIds.{onu_ids}
use Rattle.gp_table.specs.Active.{counts_of, left_or_zero}

pub length-counts_of : (m : FramesLeft) → length (counts_of m) ≡ onu_ids
unfolding counts_of
length-counts_of m = length-map-range_with_len (λ onu. left_or_zero (fin.get m onu)) 0 onu_ids

pub get-counts_of : (m : FramesLeft) (onu : ℕ) → onu < onu_ids → get_or (counts_of m) onu 0 ≡ left_or_zero (fin.get m onu)
unfolding counts_of
get-counts_of m onu low = get_or-map-range_with_len (λ n. left_or_zero (fin.get m n)) 0 onu_ids onu onu 0 low (omega arith)

pub counts-empty : counts_of fin.empty ≡ replicate onu_ids 0
counts-empty = same_number_lists (counts_of fin.empty) (replicate onu_ids 0) (length-counts_of fin.empty) (λ k low.
    let below : k < onu_ids = omega (arith, length-counts_of fin.empty) in
    get-counts_of fin.empty k below ∙ ap left_or_zero (fin.get-empty nat_cmp k) ∙ sym (get_or-replicate onu_ids k 0 0 below))

-- a frame goes by
one_less : (o : Option ℕ) → left_or_zero (left_after_frame o) ≡ left_or_zero o - 1
one_less None = refl
one_less (Some left) = elim (cases_Bool (nat_le left 1)) [
  | inl t ↦ ap (λ b. left_or_zero (cond b None (Some (left - 1)))) t ∙ (let low : left ≤ 1 = grind (arith, nat_tests) in omega arith)
  | inr f ↦ ap (λ b. left_or_zero (cond b None (Some (left - 1)))) f
]

pub counts-after_frame : (m : FramesLeft) → counts_of (cooling_after_frame m) ≡ map (λ (left : ℕ). left - 1) (counts_of m)
counts-after_frame m = same_number_lists _ _ (length-counts_of (cooling_after_frame m) ∙ sym (length-map (counts_of m) (λ left. left - 1) ∙ length-counts_of m)) (λ k low.
    let below : k < onu_ids = omega (arith, length-counts_of (cooling_after_frame m)) in
    get-counts_of (cooling_after_frame m) k below ∙ ap left_or_zero (get-after_frame m k) ∙ one_less (fin.get m k)
    ∙ ap (λ n. n - 1) (sym (get-counts_of m k below))
    ∙ sym (get_or-map (λ (left : ℕ). left - 1) (counts_of m) k 0 0 (omega (arith, length-counts_of m))))

-- a number begins to cool
pub get-quarantine_same : (q : Quarantine) (n : ℕ) → fin.get q.cooling n ≡ None → let after : Quarantine = quarantine_with q n in left_or_zero (fin.get after.cooling n) ≡ q.frames
get-quarantine_same q n warm = elim (cases_Bool (nat_le q.frames 0)) [
  | inl t ↦
      ap (λ b. left_or_zero (fin.get (cond b q.cooling (fin.insert q.cooling n q.frames)) n)) t ∙ ap left_or_zero warm
      ∙ (let none : q.frames ≤ 0 = grind (arith, nat_tests) in omega arith)
  | inr f ↦
      ap (λ b. left_or_zero (fin.get (cond b q.cooling (fin.insert q.cooling n q.frames)) n)) f ∙ ap left_or_zero (get-insert_same q.cooling n q.frames)
]

pub get-quarantine_other : (q : Quarantine) (n k : ℕ) → (k ≡ n → ⊥) → let after : Quarantine = quarantine_with q n in fin.get after.cooling k ≡ fin.get q.cooling k
get-quarantine_other q n k other = elim (cases_Bool (nat_le q.frames 0)) [
  | inl t ↦ ap (λ b. fin.get (cond b q.cooling (fin.insert q.cooling n q.frames)) k) t
  | inr f ↦ ap (λ b. fin.get (cond b q.cooling (fin.insert q.cooling n q.frames)) k) f ∙ get-insert_other q.cooling n q.frames k other
]

pub counts-quarantine : (q : Quarantine) (n : ℕ) → n < onu_ids → fin.get q.cooling n ≡ None → let after : Quarantine = quarantine_with q n in counts_of after.cooling ≡ set (counts_of q.cooling) n q.frames
counts-quarantine q n below warm =
    let after : Quarantine = quarantine_with q n in
    let long = length-counts_of q.cooling in
    same_number_lists _ _ (length-counts_of after.cooling ∙ sym (length-set (counts_of q.cooling) n q.frames ∙ long)) (λ k low.
    let inside : k < onu_ids = omega (arith, length-counts_of after.cooling) in
    get-counts_of after.cooling k inside
    ∙ elim (cases_eq k n) [
      | inl same ↦
          ap (λ x. left_or_zero (fin.get after.cooling x)) same ∙ get-quarantine_same q n warm
          ∙ sym (get_or-set_same (counts_of q.cooling) n q.frames 0 (omega arith))
          ∙ ap (λ x. get_or (set (counts_of q.cooling) n q.frames) x 0) (sym same)
      | inr other ↦
          ap left_or_zero (get-quarantine_other q n k other) ∙ sym (get-counts_of q.cooling k inside)
          ∙ sym (get_or-set_other (counts_of q.cooling) n k q.frames 0 other)
    ])

-- each number that cools has frames left
abbrev pub HaveFrames : FramesLeft → Type 0
HaveFrames m = (onu left : ℕ) → fin.get m onu ≡ Some left → 1 ≤ left

none_some : (left : ℕ) → ◌≡◌ {A = Option ℕ} None (Some left) → ⊥
none_some left e = cc

same_left : (a b : ℕ) → ◌≡◌ {A = Option ℕ} (Some a) (Some b) → a ≡ b
same_left a b e = cc

after_frame_some : (o : Option ℕ) (left : ℕ) → left_after_frame o ≡ Some left → 1 ≤ left
after_frame_some None left e = absurd (none_some left e)
after_frame_some (Some was) left e = elim (cases_Bool (nat_le was 1)) [
  | inl t ↦ absurd (none_some left (sym (ap (λ b. cond b None (Some (was - 1))) t) ∙ e))
  | inr f ↦
      let is : was - 1 ≡ left = same_left (was - 1) left (sym (ap (λ b. cond b None (Some (was - 1))) f) ∙ e) in
      let more : 1 < was = grind (arith, nat_tests) in
      omega arith
]

pub frames-after_frame : (m : FramesLeft) → HaveFrames (cooling_after_frame m)
frames-after_frame m onu left e = after_frame_some (fin.get m onu) left (sym (get-after_frame m onu) ∙ e)

pub frames-quarantine : (q : Quarantine) (n : ℕ) → HaveFrames q.cooling → let after : Quarantine = quarantine_with q n in HaveFrames after.cooling
frames-quarantine q n h onu left e = elim (cases_Bool (nat_le q.frames 0)) [
  | inl t ↦ h onu left (sym (ap (λ b. fin.get (cond b q.cooling (fin.insert q.cooling n q.frames)) onu) t) ∙ e)
  | inr f ↦
      let got = sym (ap (λ b. fin.get (cond b q.cooling (fin.insert q.cooling n q.frames)) onu) f) ∙ e in
      elim (cases_eq onu n) [
        | inl same ↦
            let is : q.frames ≡ left = same_left q.frames left (sym (get-insert_same q.cooling n q.frames) ∙ ap (fin.get (fin.insert q.cooling n q.frames)) (sym same) ∙ got) in
            let some : 0 < q.frames = grind (arith, nat_tests) in
            omega arith
        | inr other ↦ h onu left (sym (get-insert_other q.cooling n q.frames onu other) ∙ got)
      ]
]

-- a count of 0 is that of a number that does not cool
pub warm_count : (m : FramesLeft) (onu : ℕ) → HaveFrames m → onu < onu_ids → get_or (counts_of m) onu 0 ≡ 0 → fin.get m onu ≡ None
warm_count m onu h low zero_left = by_left (fin.get m onu) refl
  where
    by_left : (o : Option ℕ) → fin.get m onu ≡ o → fin.get m onu ≡ None
    by_left None e = e
    by_left (Some left) e =
        let some = h onu left e in
        let is : left_or_zero (fin.get m onu) ≡ 0 = sym (get-counts_of m onu low) ∙ zero_left in
        let same : left ≡ 0 = sym (ap left_or_zero e) ∙ is in
        absurd (omega arith)
