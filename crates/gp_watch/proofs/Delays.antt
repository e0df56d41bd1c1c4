-- The delays of a unit's answers, kept in a list.
use Rattle.std.proofs.Common.{◌≡◌, ℕ, ◌+◌, ◌-◌, ◌<◌, ◌≤◌, ◌==◌, Bool, true, false, cond, not, ◌&&◌, ◌||◌, nat_lt, List, length, take, Option, None, Some, inl, inr, refl, sym, ap, ◌∙◌, arith}
use Rattle.std.specs.Prelude.{nat_eq, nat_le, is_none}
use Rattle.std.proofs.Math.ListN.{set}
use Rattle.std.specs.List.{list_any}
use Rattle.std.proofs.lemmas.List.{take_more_set}
use Rattle.std.specs.Ordering.{nat_cmp}
use Rattle.std.specs.Cmp.{nat_cmp_total}
use Rattle.std.specs.FinSet.{FinSet, contains, from_list, insert, len, len-empty, len-insert, contains-empty, contains-from_list_nat, from_list_push, nat_cmp-IsAntisymmetric}
use Rattle.std.proofs.lemmas.Bool.{cases_Bool, cases_eq, ne_eqb, eqb-true, false≢true, lt-ltb, le-ltb}
use Rattle.gp_observer.specs.Observer.{some_passes}
use Rattle.gp_observer.specs.Watch.{Answers, answers_of, has_room_for, with_answer}
use Rattle.gp_observer.specs.Rules.{Settings, leaves_no_answer}
use Rattle.gp_observer.proofs.Numbers.{in_put_same, in_put_other}
use Rattle.gp_watch.specs.Answers.{delays_of, answers_in, AreApart}
use Rattle.gp_watch.proofs.Sets.{same_numbers}

pub apart_none : (xs : List ℕ) → AreApart xs 0
apart_none xs = record { room = omega arith; apart = len-empty nat_cmp }

abbrev pub answers : List ℕ → ℕ → Bool → Answers
answers xs count all = record { delays = delays_of xs count; all = all }

-- an answer was given
pub some_answers : (xs : List ℕ) (count : ℕ) (all : Bool) → (count == 0 && all) ≡ false → answers_in xs count all ≡ Some (answers xs count all)
some_answers xs count all h = ap (λ b. cond b None (Some (answers xs count all))) h

both_true : (b c : Bool) → (b && c) ≡ true → (b ≡ true) × (c ≡ true)
both_true true c h = (refl, h)
both_true false c h = absurd (false≢true h)

-- what is kept are the answers, also where there was none
pub answers_kept : (xs : List ℕ) (count : ℕ) (all : Bool) → answers_of (answers_in xs count all) ≡ answers xs count all
answers_kept xs count all =
    elim (cases_Bool (count == 0 && all)) [
      | inl b ↦
          let both = both_true (count == 0) all b in
          ap (λ c. answers_of (cond c None (Some (answers xs count all)))) b
          ∙ sym (λ i. answers xs (eqb-true count 0 both.0 i) (both.1 i))
      | inr b ↦ ap answers_of (some_answers xs count all b)
    ]

pub had_is : (xs : List ℕ) (count : ℕ) (all : Bool) (d : ℕ) → list_any (λ y. nat_eq y d) (take count xs) ≡ contains (answers_of (answers_in xs count all)).delays d
had_is xs count all d = sym (contains-from_list_nat (take count xs) d) ∙ ap (λ (a : Answers). contains a.delays d) (sym (answers_kept xs count all))

-- a number that is in is put in
put_again : (u : FinSet nat_cmp) (d : ℕ) → contains u d ≡ true → insert u d ≡ u
put_again u d there =
    same_numbers _ _ (λ n.
    elim (cases_eq n d) [
      | inl same ↦ ap (contains (insert u d)) same ∙ in_put_same u d ∙ sym (ap (contains u) same ∙ there)
      | inr other ↦ in_put_other u d n other
    ])

not_none : (xs : List ℕ) (count d : ℕ) (all : Bool) → contains (delays_of xs count) d ≡ true → (count == 0 && all) ≡ false
not_none xs count d all there = by_count (count == 0) refl
  where
    by_count : (b : Bool) → (count == 0) ≡ b → (b && all) ≡ false
    by_count true is = absurd (false≢true (sym (contains-empty nat_cmp d) ∙ ap (λ k. contains (delays_of xs k) d) (sym (eqb-true count 0 is)) ∙ there))
    by_count false is = refl

with_room : (a : Answers) (d : ℕ) → has_room_for a d ≡ true → with_answer a (Some d) ≡ record a { delays = insert a.delays d }
with_room a d room = ap (λ b. cond b (record a { delays = insert a.delays d }) (record a { all = false })) room

without_room : (a : Answers) (d : ℕ) → has_room_for a d ≡ false → with_answer a (Some d) ≡ record a { all = false }
without_room a d room = ap (λ b. cond b (record a { delays = insert a.delays d }) (record a { all = false })) room

-- a delay that was heard already
pub noted_again : (xs : List ℕ) (count : ℕ) (all : Bool) (d : ℕ) → contains (answers_of (answers_in xs count all)).delays d ≡ true
    → answers_in xs count all ≡ Some (with_answer (answers_of (answers_in xs count all)) (Some d))
noted_again xs count all d there =
    let kept = answers_kept xs count all in
    let here : contains (delays_of xs count) d ≡ true = ap (λ (a : Answers). contains a.delays d) (sym kept) ∙ there in
    some_answers xs count all (not_none xs count d all here)
    ∙ sym (ap (λ (a : Answers). Some (with_answer a (Some d))) kept
    ∙ ap Some (with_room (answers xs count all) d (ap (λ b. b || nat_lt (len (delays_of xs count)) 64) here))
    ∙ ap (λ (u : FinSet nat_cmp). let a : Answers = record { delays = u; all = all } in Some a) (put_again (delays_of xs count) d here))

-- one more
module _ (xs : List ℕ) (count : ℕ) (d : ℕ) (long : length xs ≡ 64) (apart : AreApart xs count) (room : count < 64) where
  pub delays_more : delays_of (set xs count d) (count + 1) ≡ insert (delays_of xs count) d
  delays_more = ap (λ (ys : List ℕ). from_list {R = nat_cmp} ys) (take_more_set xs count d (omega (arith, long, room))) ∙ from_list_push nat_cmp_total nat_cmp-IsAntisymmetric (take count xs) d

  pub apart_more : contains (delays_of xs count) d ≡ false → AreApart (set xs count d) (count + 1)
  apart_more new = record {
    room = omega (arith, room);
    apart = ap len delays_more ∙ len-insert nat_cmp_total (delays_of xs count) d ∙ ap (λ b. cond b (len (delays_of xs count)) (len (delays_of xs count) + 1)) new ∙ ap (λ k. k + 1) apart.apart;
  }

  pub noted_more : (all : Bool) → contains (delays_of xs count) d ≡ false
      → answers_in (set xs count d) (count + 1) all ≡ Some (with_answer (answers_of (answers_in xs count all)) (Some d))
  noted_more all new =
      some_answers (set xs count d) (count + 1) all (ap (λ b. b && all) (ne_eqb (count + 1) 0 (λ e. omega arith)))
      ∙ ap (λ (u : FinSet nat_cmp). let a : Answers = record { delays = u; all = all } in Some a) delays_more
      ∙ sym (ap (λ (a : Answers). Some (with_answer a (Some d))) (answers_kept xs count all)
      ∙ ap Some (with_room (answers xs count all) d (ap (λ b. b || nat_lt (len (delays_of xs count)) 64) new ∙ lt-ltb (len (delays_of xs count)) 64 (omega (arith, apart.apart, room)))))

no_all : (b : Bool) → (b && false) ≡ false
no_all true = refl
no_all false = refl

-- there is no room for it
pub noted_none : (xs : List ℕ) (count : ℕ) (all : Bool) (d : ℕ) → AreApart xs count → 64 ≤ count → contains (delays_of xs count) d ≡ false
    → answers_in xs count false ≡ Some (with_answer (answers_of (answers_in xs count all)) (Some d))
noted_none xs count all d apart full new =
    some_answers xs count false (no_all (count == 0))
    ∙ sym (ap (λ (a : Answers). Some (with_answer a (Some d))) (answers_kept xs count all)
    ∙ ap Some (without_room (answers xs count all) d (ap (λ b. b || nat_lt (len (delays_of xs count)) 64) new ∙ le-ltb (len (delays_of xs count)) 64 (omega (arith, apart.apart, full)))))

-- ---- what they leave

pub leave_when_none : (settings : Settings) (eqd : ℕ) (o : Option Answers) → is_none o ≡ true → false ≡ some_passes (leaves_no_answer settings eqd) o
leave_when_none settings eqd None h = refl
leave_when_none settings eqd (Some a) h = absurd (false≢true h)

module _ (settings : Settings) (eqd : ℕ) (o : Option Answers) where
  pub leave_some : (all : Bool) → is_none o ≡ false → (answers_of o).all ≡ all
      → some_passes (leaves_no_answer settings eqd) o ≡ (all && not (nat_le eqd settings.teqd && contains (answers_of o).delays (settings.teqd - eqd)))
  leave_some all some is = by_answers o some is
    where
      by_answers : (p : Option Answers) → is_none p ≡ false → (answers_of p).all ≡ all
          → some_passes (leaves_no_answer settings eqd) p ≡ (all && not (nat_le eqd settings.teqd && contains (answers_of p).delays (settings.teqd - eqd)))
      by_answers None h e = absurd (false≢true (sym h))
      by_answers (Some a) h e = ap (λ b. b && not (nat_le eqd settings.teqd && contains a.delays (settings.teqd - eqd))) e
