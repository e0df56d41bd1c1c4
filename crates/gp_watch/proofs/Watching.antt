-- What is known, after a change of the tables or of the index.
use Rattle.std.proofs.Common.{◌≡◌, ℕ, ◌<◌, ◌≤◌, ◌==◌, nat_lt, Bool, true, false, cond, Option, None, Some, Result, Ok, Err, inl, inr, refl, sym, ap, ◌∙◌, is_some}
use Rattle.std.specs.Prelude.{IfOk, OnErr, OnOk}
use Rattle.std.specs.FinMap.{FinMap, get, insert, len, same_map}
use Rattle.std.specs.FinMap as map
use Rattle.std.specs.FinSet.{FinSet}
use Rattle.std.specs.FinSet as finset
use Rattle.std.specs.Ordering.{nat_cmp}
use Rattle.std.specs.Option.{option_map}
use Rattle.std.proofs.lemmas.Bool.{cases_Bool, lt-ltb, le-ltb}
use Rattle.gp_ploam.specs.declared.message.Serial.{Serial}
use Rattle.gp_ploam.specs.declared.message.Down.{Down}
use Rattle.gp_ploam.specs.declared.message.Down.TheVariants.{NoMessage}
use Rattle.gp_ploam.specs.Serials.{serial_cmp, same_serial}
use Rattle.gp_ploam.proofs.Serials.{serials_total, serials_exact, same_serial-true}
use Rattle.gp_table.proofs.Gets.{get-insert_same, get-insert_other}
use Rattle.gp_table.specs.Values.{map_values}
use Rattle.gp_observer.specs.Observer.{is_of}
use Rattle.gp_observer.specs.Watch.{Watch, kept_or_new, asks_left, asks_put, asks_with, can_follow, most_followed, numbers_below, watch_begun}
use Rattle.gp_watch.specs.declared.index.Followed.{Followed}
use Rattle.gp_watch.specs.Index.{Followeds, asks_of, disabled_of, changed, onu_in, with_onu, with_asks, with_disabled, enabled, newly_followed, released}
use Rattle.gp_watch.specs.Kept.{watch_of, IsIndexed, onu_with}
use Rattle.gp_watch.specs.Tables.{Numbers, no_numbers, numbers_without}
use Rattle.gp_watch.specs.Changes.{IsOnuOf, watch_without, watch_holding}
use Rattle.gp_watch.proofs.Followeds.{get-asks_of, len-asks_of, followed_by, asks_stay, disabled_stay, onus_stay, onus_taken, onus_given, asks_of-set, asks_of-new, disabled_of-new, onus_new, disabled_of-insert, disabled_of-remove, asks_of-enabled, onus_enabled, disabled_of-enabled, asks_of-none, disabled_of-none}
use Rattle.gp_watch.proofs.Indexed.{indexed-empty, same_keys, indexed-nobody, indexed-remove, indexed-assign, passes_at, passes_none, key_none}

-- the asks of a serial number are put as they were
asks_again : (asks : FinMap serial_cmp ℕ) (s : Serial) (n : ℕ) → get asks s ≡ Some n → insert asks s n ≡ asks
asks_again asks s n there =
    same_map serials_total serials_exact _ _ (λ q.
    elim (cases_Bool (same_serial q s)) [
      | inl t ↦ ap (get (insert asks s n)) (same_serial-true q s t) ∙ get-insert_same asks s n ∙ sym there ∙ ap (get asks) (sym (same_serial-true q s t))
      | inr f ↦ get-insert_other asks s n q f
    ])

-- ---- the asks, where those of one serial number change

module _ (w : Watch) (s : Serial) (change : ℕ → ℕ) where
  pub asks_with_there : (n : ℕ) → asks_left w s ≡ Some n → asks_with w s change ≡ insert w.asks s (change n)
  asks_with_there n is = ap (λ (o : Option ℕ). asks_put w.asks s (option_map change o)) is

  pub asks_with_none : asks_left w s ≡ None → asks_with w s change ≡ w.asks
  asks_with_none is = ap (λ (o : Option ℕ). asks_put w.asks s (option_map change o)) is

  -- one that is new
  pub asks_with_new : (followed : Bool) → get w.asks s ≡ None → followed ≡ can_follow w s → asks_put w.asks s (cond followed (Some (change 0)) None) ≡ asks_with w s change
  asks_with_new followed none is =
      ap (λ b. asks_put w.asks s (cond b (Some (change 0)) None)) (is ∙ ap is_some new) ∙ by_room (nat_lt (len w.asks) most_followed) ∙ sym (ap (λ (o : Option ℕ). asks_put w.asks s (option_map change o)) new)
    where
      new : asks_left w s ≡ kept_or_new None (nat_lt (len w.asks) most_followed)
      new = ap (λ (o : Option ℕ). kept_or_new o (nat_lt (len w.asks) most_followed)) none

      by_room : (b : Bool) → asks_put w.asks s (cond (is_some (kept_or_new None b)) (Some (change 0)) None) ≡ asks_put w.asks s (option_map change (kept_or_new None b))
      by_room true = refl
      by_room false = refl

-- one that is followed keeps its asks
pub asks_with_same : (w : Watch) (s : Serial) (n : ℕ) → get w.asks s ≡ Some n → asks_with w s (λ a. a) ≡ w.asks
asks_with_same w s n there =
    asks_with_there w s (λ a. a) n (ap (λ (o : Option ℕ). kept_or_new o (nat_lt (len w.asks) most_followed)) there) ∙ asks_again w.asks s n there

module _ (t : Numbers) (m : Followeds) (u : FinSet nat_cmp) (last : Down) (copies : ℕ) (midway cut : Bool) where
  abbrev here : Watch
  here = watch_of t m u last copies midway cut

  -- an index that says the same of asks and who is disabled
  pub watch_is : (n : Followeds) → asks_of n ≡ asks_of m → disabled_of n ≡ disabled_of m → watch_of t n u last copies midway cut ≡ here
  watch_is n a d = λ i. record here { seen = record here.seen { disabled = d i }; asks = a i }

  -- ---- an ONU-ID is given up

  released_is : (o : Option Serial) → watch_of t (released m o) u last copies midway cut ≡ here
  released_is None = refl
  released_is (Some s) = watch_is (changed m s (with_onu None)) (asks_stay m s (with_onu None) (λ f. refl)) (disabled_stay m s (with_onu None) (λ f. refl))

  pub given_up : (n : ℕ) (o : Option Serial) → watch_of (numbers_without t (λ k. k == n)) (released m o) u last copies midway cut ≡ watch_without here (λ k. k == n)
  given_up n o = ap (λ (w : Watch). watch_without w (λ k. k == n)) (released_is o)

  pub indexed-given_up : IsIndexed t.holder (onu_with m) → (n : ℕ) → IsIndexed (numbers_without t (λ k. k == n)).holder (onu_with (released m (get t.holder n)))
  indexed-given_up is n = by_holder (get t.holder n) refl
    where
      by_holder : (o : Option Serial) → get t.holder n ≡ o → IsIndexed (numbers_without t (λ k. k == n)).holder (onu_with (released m o))
      by_holder None e = indexed-nobody t.holder (onu_with m) is n e
      by_holder (Some s) e = indexed-remove t.holder (onu_with m) is n s e (onu_with (changed m s (with_onu None))) (onus_taken m s)

  module _ (s : Serial) where
    -- ---- whom it has

    pub onu_is : IsIndexed t.holder (onu_with m) → (o : Option ℕ) → onu_with m s ≡ o → IsOnuOf here s o
    onu_is is None e = passes_none t.holder (onu_with m) is s e
    onu_is is (Some n) e = (is.low n s ((is.each n s).1 e), passes_at t.holder (onu_with m) is s n e)

    pub none_held : IsIndexed t.holder (onu_with m) → get m s ≡ None → (n : ℕ) → is_of here.seen s n ≡ false
    none_held is none = passes_none t.holder (onu_with m) is s (ap (λ (o : Option Followed). onu_in o) none)

    -- ---- how many asks it has left

    pub left_there : (f : Followed) → get m s ≡ Some f → asks_left here s ≡ Some f.asks
    left_there f there = ap (λ (o : Option ℕ). kept_or_new o (nat_lt (len (asks_of m)) most_followed)) (get-asks_of m s ∙ ap (option_map (λ (g : Followed). g.asks)) there)

    left_new : get m s ≡ None → (b : Bool) → nat_lt (len m) 4096 ≡ b → asks_left here s ≡ kept_or_new None b
    left_new none b is =
        ap (λ (o : Option ℕ). kept_or_new o (nat_lt (len (asks_of m)) most_followed)) (get-asks_of m s ∙ ap (option_map (λ (g : Followed). g.asks)) none)
        ∙ ap (λ (k : ℕ). kept_or_new None (nat_lt k 4096)) (len-asks_of m) ∙ ap (kept_or_new None) is

    pub left_room : get m s ≡ None → len m < 4096 → asks_left here s ≡ Some 0
    left_room none room = left_new none true (lt-ltb (len m) 4096 room)

    pub left_full : get m s ≡ None → 4096 ≤ len m → asks_left here s ≡ None
    left_full none full = left_new none false (le-ltb (len m) 4096 full)

    -- ---- it is followed from now on

    pub followed_new : (n : ℕ) → get m s ≡ None → watch_of t (insert m s (newly_followed n)) u last copies midway cut ≡ record here { asks = insert (asks_of m) s n }
    followed_new n none = λ i. record here { seen = record here.seen { disabled = disabled_of-new m s n none i }; asks = asks_of-new m s n none i }

    pub indexed-new : IsIndexed t.holder (onu_with m) → (n : ℕ) → get m s ≡ None → IsIndexed t.holder (onu_with (insert m s (newly_followed n)))
    indexed-new is n none = same_keys t.holder (onu_with m) is (onu_with (insert m s (newly_followed n))) (onus_new m s n none)

    pub asks_set : (f : Followed) (n : ℕ) → get m s ≡ Some f → watch_of t (changed m s (with_asks n)) u last copies midway cut ≡ record here { asks = insert (asks_of m) s n }
    asks_set f n there = λ i. record here { seen = record here.seen { disabled = disabled_stay m s (with_asks n) (λ g. refl) i }; asks = asks_of-set m s f n there i }

    pub indexed-asks : IsIndexed t.holder (onu_with m) → (n : ℕ) → IsIndexed t.holder (onu_with (changed m s (with_asks n)))
    indexed-asks is n = same_keys t.holder (onu_with m) is (onu_with (changed m s (with_asks n))) (onus_stay m s (with_asks n) (λ g. refl))

    -- ---- who is disabled

    pub disabled_now : (f : Followed) → get m s ≡ Some f → watch_of t (changed m s (with_disabled true)) u last copies midway cut ≡ record here { seen = record here.seen { disabled = finset.insert (disabled_of m) s } }
    disabled_now f there = λ i. record here { seen = record here.seen { disabled = disabled_of-insert m s f there i }; asks = asks_stay m s (with_disabled true) (λ g. refl) i }

    pub enabled_now : watch_of t (changed m s (with_disabled false)) u last copies midway cut ≡ record here { seen = record here.seen { disabled = finset.remove (disabled_of m) s } }
    enabled_now = λ i. record here { seen = record here.seen { disabled = disabled_of-remove m s i }; asks = asks_stay m s (with_disabled false) (λ g. refl) i }

    pub indexed-marked : IsIndexed t.holder (onu_with m) → (b : Bool) → IsIndexed t.holder (onu_with (changed m s (with_disabled b)))
    indexed-marked is b = same_keys t.holder (onu_with m) is (onu_with (changed m s (with_disabled b))) (onus_stay m s (with_disabled b) (λ g. refl))

    -- ---- it holds an ONU-ID

    pub holding : (n : ℕ) → watch_of (record t { holder = insert t.holder n s }) (changed m s (with_onu (Some n))) (finset.remove u n) last copies midway cut ≡ watch_holding here n s
    holding n =
        λ i. record (watch_holding here n s) {
          seen = record (watch_holding here n s).seen { disabled = disabled_stay m s (with_onu (Some n)) (λ g. refl) i };
          asks = asks_stay m s (with_onu (Some n)) (λ g. refl) i;
        }

    pub indexed-holding : IsIndexed t.holder (onu_with m) → (n : ℕ) → n ≤ 253 → get t.holder n ≡ None → ((k : ℕ) → is_of here.seen s k ≡ false) → is_some (get (asks_of m) s) ≡ true
        → IsIndexed (insert t.holder n s) (onu_with (changed m s (with_onu (Some n))))
    indexed-holding is n low nobodys none followed =
        let f = followed_by m s followed in
        indexed-assign t.holder (onu_with m) is n s low nobodys (key_none t.holder (onu_with m) is s none) (onu_with (changed m s (with_onu (Some n)))) (onus_given m s f.0 n f.1)

  pub all_enabled : watch_of t (map_values enabled m) u last copies midway cut ≡ record here { seen = record here.seen { disabled = finset.empty } }
  all_enabled = λ i. record here { seen = record here.seen { disabled = disabled_of-enabled m i }; asks = asks_of-enabled m i }

  pub indexed-enabled : IsIndexed t.holder (onu_with m) → IsIndexed t.holder (onu_with (map_values enabled m))
  indexed-enabled is = same_keys t.holder (onu_with m) is (onu_with (map_values enabled m)) (onus_enabled m)

  -- the asks of one that is followed change
  pub asks_changed : (s : Serial) (f : Followed) → get m s ≡ Some f → (change : ℕ → ℕ) (n : ℕ) → n ≡ change f.asks → watch_of t (changed m s (with_asks n)) u last copies midway cut ≡ record here { asks = asks_with here s change }
  asks_changed s f there change n is =
      asks_set s f n there
      ∙ ap (λ (a : FinMap serial_cmp ℕ). record here { asks = a }) (ap (insert (asks_of m) s) is ∙ sym (asks_with_there here s change f.asks (left_there s f there)))

-- ---- a call that may fail

pub on_ok : {A E : Type 0} (r : Result A E) (P Q : A → Type 0) (R : Type 0) → IfOk r P → IfOk r Q → ((a : A) → P a → Q a → R) → OnOk r R
on_ok (Ok a) P Q R p q h = h a p q
on_ok (Err e) P Q R p q h = tt

pub if_ok : {A E : Type 0} (r : Result A E) (R : A → Type 0) → ((a : A) → R a) → IfOk r R
if_ok (Ok a) R h = h a
if_ok (Err e) R h = tt

pub on_err : {A E : Type 0} (r : Result A E) (R : Type 0) → R → OnErr r R
on_err (Ok a) R h = tt
on_err (Err e) R h = h

-- ---- at first

pub begun : (b : Bool) → watch_of no_numbers map.empty (cond b (numbers_below 254) finset.empty) NoMessage 0 b b ≡ watch_begun b
begun b = λ i. record (watch_begun b) { seen = record (watch_begun b).seen { disabled = disabled_of-none i }; asks = asks_of-none i }

pub indexed_first : IsIndexed no_numbers.holder (onu_with map.empty)
indexed_first = indexed-empty (onu_with map.empty) (λ s. ap onu_in (map.get-empty serial_cmp s))
