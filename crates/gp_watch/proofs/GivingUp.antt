-- ONU-IDs that are given up one after the other.
use Rattle.std.proofs.Common.{◌≡◌, ℕ, ◌+◌, ◌≤◌, ◌==◌, nat_lt, Bool, true, false, cond, not, ◌||◌, Option, None, Some, inl, inr, refl, sym, ap, ◌∙◌, eq-eqb, arith}
use Rattle.std.specs.Ordering.{nat_cmp}
use Rattle.std.specs.Cmp.{nat_cmp_total}
use Rattle.std.specs.FinMap.{FinMap, get, retain_keys, same_map, nat_cmp-IsAntisymmetric}
use Rattle.std.specs.FinSet as finset
use Rattle.std.proofs.lemmas.Bool.{cases_Bool, cases_eq, ne_eqb, ltb-true, ltb-false, lt-ltb, le-ltb}
use Rattle.gp_ploam.specs.declared.message.Serial.{Serial}
use Rattle.gp_observer.specs.Observer.{some_passes}
use Rattle.gp_observer.specs.Watch.{Watch}
use Rattle.gp_observer.proofs.Listed.{dropped_at}
use Rattle.gp_watch.specs.Tables.{AreLow, Numbers}
use Rattle.gp_watch.specs.Changes.{watch_without}
use Rattle.gp_watch.proofs.Sets.{dropped_twice, dropped_none, dropped_all, kept_twice, kept_all, kept_none}

none_either : (b : Bool) → ◌≡◌ {A = Option ℕ} (cond b None None) None
none_either true = refl
none_either false = refl

-- Alloc-IDs whose ONU-IDs are given up
module _ (alloc : FinMap nat_cmp ℕ) where
  abbrev pub left_allocs : (ℕ → Bool) → FinMap nat_cmp ℕ
  left_allocs gone = retain_keys alloc (λ a. not (some_passes gone (get alloc a)))

  left_at : (gone : ℕ → Bool) (a : ℕ) → get (left_allocs gone) a ≡ cond (some_passes gone (get alloc a)) None (get alloc a)
  left_at gone a = dropped_at alloc (λ b. some_passes gone (get alloc b)) a

  pub allocs_none : (p : ℕ → Bool) → ((n : ℕ) → p n ≡ false) → left_allocs p ≡ alloc
  allocs_none p none = dropped_none alloc (λ a. some_passes p (get alloc a)) (λ a. by_owner (get alloc a))
    where
      by_owner : (o : Option ℕ) → some_passes p o ≡ false
      by_owner None = refl
      by_owner (Some n) = none n

pub allocs_twice : (alloc : FinMap nat_cmp ℕ) (p q : ℕ → Bool) → left_allocs (left_allocs alloc p) q ≡ left_allocs alloc (λ n. p n || q n)
allocs_twice alloc p q =
    same_map nat_cmp_total nat_cmp-IsAntisymmetric _ _ (λ a.
    left_at (left_allocs alloc p) q a ∙ ap (λ (o : Option ℕ). cond (some_passes q o) None o) (left_at alloc p a) ∙ by_owner (get alloc a)
    ∙ sym (left_at alloc (λ n. p n || q n) a))
  where
    by_owner : (o : Option ℕ) → cond (some_passes q (cond (some_passes p o) None o)) None (cond (some_passes p o) None o) ≡ cond (some_passes (λ n. p n || q n) o) None o
    by_owner None = refl
    by_owner (Some n) = by_test (p n)
      where
        by_test : (b : Bool) → cond (some_passes q (cond b None (Some n))) None (cond b None (Some n)) ≡ cond (b || q n) None (Some n)
        by_test true = refl
        by_test false = refl

module _ (w : Watch) where
  pub without_twice : (p q : ℕ → Bool) → watch_without (watch_without w p) q ≡ watch_without w (λ n. p n || q n)
  without_twice p q =
      λ i. record w {
        seen = record w.seen {
          holder = dropped_twice w.seen.holder p q i;
          alloc = allocs_twice w.seen.alloc p q i;
          delay = dropped_twice w.seen.delay p q i;
        };
        answers = dropped_twice w.answers p q i;
        told = kept_twice w.told p q i;
      }

  pub without_none : (p : ℕ → Bool) → ((n : ℕ) → p n ≡ false) → watch_without w p ≡ w
  without_none p none =
      λ i. record w {
        seen = record w.seen {
          holder = dropped_none w.seen.holder p none i;
          alloc = allocs_none w.seen.alloc p none i;
          delay = dropped_none w.seen.delay p none i;
        };
        answers = dropped_none w.answers p none i;
        told = kept_all w.told p none i;
      }

  pub without_same : (p q : ℕ → Bool) → ((n : ℕ) → p n ≡ q n) → watch_without w p ≡ watch_without w q
  without_same p q same = ap (watch_without w) (λ i n. same n i)

-- ---- all of them

or_next : (n k : ℕ) → (nat_lt n k || n == k) ≡ nat_lt n (k + 1)
or_next n k =
    elim (cases_eq n k) [
      | inl same ↦
          ap (λ b. nat_lt n k || b) (eq-eqb n k same) ∙ ap (λ b. b || true) (le-ltb n k (omega (arith, same)))
          ∙ sym (lt-ltb n (k + 1) (omega (arith, same)))
      | inr other ↦
          ap (λ b. nat_lt n k || b) (ne_eqb n k other)
          ∙ elim (cases_Bool (nat_lt n k)) [
            | inl b ↦ let below = ltb-true n k b in ap (λ c. c || false) b ∙ sym (lt-ltb n (k + 1) (omega arith))
            | inr b ↦ let above = ltb-false n k b in ap (λ c. c || false) b ∙ sym (le-ltb n (k + 1) (omega (arith, other)))
          ]
    ]

-- the next one is given up
pub next_given_up : (w : Watch) (k : ℕ) → watch_without (watch_without w (λ n. nat_lt n k)) (λ n. n == k) ≡ watch_without w (λ n. nat_lt n (k + 1))
next_given_up w k = without_twice w (λ n. nat_lt n k) (λ n. n == k) ∙ without_same w _ _ (λ n. or_next n k)

module _ {X : Type 0} (m : FinMap nat_cmp X) (low : (n : ℕ) → 256 ≤ n → get m n ≡ None) where
  none_some : (x : X) → ◌≡◌ {A = Option X} None (Some x) → ⊥
  none_some x h = cc

  all_low : (n : ℕ) (x : X) → get m n ≡ Some x → nat_lt n 256 ≡ true
  all_low n x has =
      elim (cases_Bool (nat_lt n 256)) [
        | inl b ↦ b
        | inr b ↦ absurd (none_some x (sym (low n (ltb-false n 256 b)) ∙ has))
      ]

  all_dropped : retain_keys m (λ n. not (nat_lt n 256)) ≡ retain_keys m (λ n. not true)
  all_dropped = dropped_all m (λ n. nat_lt n 256) all_low ∙ sym (dropped_all m (λ n. true) (λ n x has. refl))

pub all_given_up : (w : Watch) (t : Numbers) → AreLow t → w.seen.holder ≡ t.holder → w.seen.delay ≡ t.delay → w.answers ≡ t.answers → w.seen.alloc ≡ t.alloc
    → record (watch_without w (λ n. nat_lt n 256)) { told = finset.empty } ≡ watch_without w (λ n. true)
all_given_up w t low h d a o =
    λ i. record w {
      seen = record w.seen {
        holder = all_dropped w.seen.holder (λ n past. ap (λ (m : FinMap nat_cmp Serial). get m n) h ∙ low.holder n past) i;
        alloc = allocs i;
        delay = all_dropped w.seen.delay (λ n past. ap (λ (m : FinMap nat_cmp ℕ). get m n) d ∙ low.delay n past) i;
      };
      answers = all_dropped w.answers (λ n past. ap (λ m. get m n) a ∙ low.answers n past) i;
      told = sym (kept_none w.told (λ n. true) (λ n. refl)) i;
    }
  where
    allocs : left_allocs w.seen.alloc (λ n. nat_lt n 256) ≡ left_allocs w.seen.alloc (λ n. true)
    allocs =
        dropped_all w.seen.alloc (λ b. some_passes (λ n. nat_lt n 256) (get w.seen.alloc b)) (λ b n has. ap (some_passes (λ n. nat_lt n 256)) has ∙ lt-ltb n 256 (low.alloc b n (ap (λ (m : FinMap nat_cmp ℕ). get m b) (sym o) ∙ has)))
        ∙ sym (dropped_all w.seen.alloc (λ b. some_passes (λ n. true) (get w.seen.alloc b)) (λ b n has. ap (some_passes (λ n. true)) has))
