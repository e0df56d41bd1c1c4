-- An observer that follows only some serial numbers knows the same of all ONU-IDs of which it knows who holds them as
-- one that follows all.
use Rattle.std.proofs.Common.{◌≡◌, ℕ, ◌≤◌, ◌==◌, Bool, true, false, cond, ◌&&◌, ◌||◌, not, Option, None, Some, ◌⊎◌, inl, inr, refl, sym, ap, subst, ◌∙◌, ◌↔◌, eq-eqb}
use Rattle.std.specs.Ordering.{nat_cmp}
use Rattle.std.specs.FinMap.{get, insert, remove}
use Rattle.std.specs.FinSet.{FinSet, contains, contains-insert, contains-remove}
use Rattle.std.specs.FinSet as finset
use Rattle.std.specs.Ordering.{eq_by_cmp}
use Rattle.std.proofs.lemmas.Bool.{cases_Bool, cases_eq, false≢true, le-leb}
use Rattle.gp_ploam.specs.declared.message.Serial.{Serial}
use Rattle.gp_ploam.specs.declared.message.Down.{Down}
use Rattle.gp_ploam.specs.declared.message.Down.TheVariants.{UpstreamOverhead, AssignOnu, RangingTime, Deactivate, DisableSerial, EnableSerial, EnableAll, AssignAlloc, NoMessage, Popup, Other}
use Rattle.gp_ploam.specs.Serials.{serial_cmp, same_serial}
use Rattle.gp_ploam.proofs.Serials.{serials_total, same_serial-true}
use Rattle.gp_observer.specs.Observer.{Observed, some_passes, is_of, is_unit_number, drops, units_without, popped_up, observed_after}
use Rattle.gp_observer.specs.Watch.{Watch, can_follow, seen_after, unknown_after}
use Rattle.gp_observer.proofs.Keeping.{KeepsRules}
use Rattle.gp_observer.proofs.Listed.{put_same, put_other, removed_same, removed_other, dropped_at}
use Rattle.gp_observer.proofs.Numbers.{in_put_same, in_put_other, in_removed_same, in_removed_other, none_either, kept_number}

-- the first observer agrees with the second, but for the ONU-IDs of which it isn't known who holds them
pub record Agrees (u : FinSet nat_cmp) (w s : Observed) : Type 0 where
  pub holder : (n : ℕ) → contains u n ≡ false → get w.holder n ≡ get s.holder n
  pub nobody : (n : ℕ) → contains u n ≡ true → get w.holder n ≡ None
  pub delay : (n : ℕ) → contains u n ≡ false → get w.delay n ≡ get s.delay n
  pub alloc : (a n : ℕ) → contains u n ≡ false → (get w.alloc a ≡ Some n) ↔ (get s.alloc a ≡ Some n)
  pub disabled : (t : Serial) → contains w.disabled t ≡ true → contains s.disabled t ≡ true

module _ (u : FinSet nat_cmp) (w s : Observed) (is : Agrees u w s) where
  -- a message drops the same
  pub same_drops : (m : Down) (n : ℕ) → contains u n ≡ false → drops w m n ≡ drops s m n
  same_drops (AssignOnu k t) n j = ap (λ o. is_unit_number k && (n == k || some_passes (λ h. same_serial t h) o)) (is.holder n j)
  same_drops (DisableSerial t) n j = ap (λ o. some_passes (λ h. same_serial t h) o) (is.holder n j)
  same_drops _ n j = refl

  pub agrees_without : (d e : ℕ → Bool) → ((n : ℕ) → contains u n ≡ false → d n ≡ e n) → Agrees u (units_without w d) (units_without s e)
  agrees_without d e same =
      record {
        holder = λ n j. dropped_at w.holder d n ∙ ap (λ b. cond b None (get w.holder n)) (same n j) ∙ ap (λ o. cond (e n) None o) (is.holder n j) ∙ sym (dropped_at s.holder e n);
        nobody = λ n j. dropped_at w.holder d n ∙ ap (λ o. cond (d n) None o) (is.nobody n j) ∙ none_either (d n);
        delay = λ n j. dropped_at w.delay d n ∙ ap (λ b. cond b None (get w.delay n)) (same n j) ∙ ap (λ o. cond (e n) None o) (is.delay n j) ∙ sym (dropped_at s.delay e n);
        alloc = λ a n j. (
          λ h. let kept = (kept_number d (get w.alloc a) n).0 (sym (at_w a) ∙ h) in at_s a ∙ (kept_number e (get s.alloc a) n).1 ((is.alloc a n j).0 kept.0, sym (same n j) ∙ kept.1),
          λ h. let kept = (kept_number e (get s.alloc a) n).0 (sym (at_s a) ∙ h) in at_w a ∙ (kept_number d (get w.alloc a) n).1 ((is.alloc a n j).1 kept.0, same n j ∙ kept.1),
        );
        disabled = is.disabled;
      }
    where
      at_w : (a : ℕ) → get (units_without w d).alloc a ≡ cond (some_passes d (get w.alloc a)) None (get w.alloc a)
      at_w a = dropped_at w.alloc (λ x. some_passes d (get w.alloc x)) a

      at_s : (a : ℕ) → get (units_without s e).alloc a ≡ cond (some_passes e (get s.alloc a)) None (get s.alloc a)
      at_s a = dropped_at s.alloc (λ x. some_passes e (get s.alloc x)) a

  -- what is dropped belongs to ONU-IDs of which it isn't known who holds them
  pub agrees_still : (e : ℕ → Bool) → ((n : ℕ) → contains u n ≡ false → e n ≡ false) → Agrees u w (units_without s e)
  agrees_still e none =
      record {
        holder = λ n j. is.holder n j ∙ sym (ap (λ b. cond b None (get s.holder n)) (none n j)) ∙ sym (dropped_at s.holder e n);
        nobody = is.nobody;
        delay = λ n j. is.delay n j ∙ sym (ap (λ b. cond b None (get s.delay n)) (none n j)) ∙ sym (dropped_at s.delay e n);
        alloc = λ a n j. (
          λ h. at_s a ∙ (kept_number e (get s.alloc a) n).1 ((is.alloc a n j).0 h, none n j),
          λ h. (is.alloc a n j).1 ((kept_number e (get s.alloc a) n).0 (sym (at_s a) ∙ h)).0,
        );
        disabled = is.disabled;
      }
    where
      at_s : (a : ℕ) → get (units_without s e).alloc a ≡ cond (some_passes e (get s.alloc a)) None (get s.alloc a)
      at_s a = dropped_at s.alloc (λ x. some_passes e (get s.alloc x)) a

  -- the ONU-ID is now that of a serial number that is followed
  agrees_known : (k : ℕ) (t : Serial) → get w.delay k ≡ None → get s.delay k ≡ None → ((a : ℕ) → get w.alloc a ≡ Some k → ⊥) → ((a : ℕ) → get s.alloc a ≡ Some k → ⊥)
      → Agrees (finset.remove u k) (record w { holder = insert w.holder k t }) (record s { holder = insert s.holder k t })
  agrees_known k t w_none s_none w_has s_has =
      record {
        holder = λ n j. by_holder n j (cases_eq n k);
        nobody = λ n j. by_nobody n j (cases_eq n k);
        delay = λ n j. by_delay n j (cases_eq n k);
        alloc = λ a n j. by_alloc a n j (cases_eq n k);
        disabled = is.disabled;
      }
    where
      still : (n : ℕ) (b : Bool) → (n ≡ k → ⊥) → contains (finset.remove u k) n ≡ b → contains u n ≡ b
      still n b other j = sym (in_removed_other u k n other) ∙ j

      by_holder : (n : ℕ) → contains (finset.remove u k) n ≡ false → (n ≡ k) ⊎ (n ≡ k → ⊥) → get (insert w.holder k t) n ≡ get (insert s.holder k t) n
      by_holder n j (inl same) = ap (get (insert w.holder k t)) same ∙ put_same w.holder k t ∙ sym (put_same s.holder k t) ∙ sym (ap (get (insert s.holder k t)) same)
      by_holder n j (inr other) = put_other w.holder k t n other ∙ is.holder n (still n false other j) ∙ sym (put_other s.holder k t n other)

      by_nobody : (n : ℕ) → contains (finset.remove u k) n ≡ true → (n ≡ k) ⊎ (n ≡ k → ⊥) → get (insert w.holder k t) n ≡ None
      by_nobody n j (inl same) = absurd (false≢true (sym (in_removed_same u k) ∙ sym (ap (contains (finset.remove u k)) same) ∙ j))
      by_nobody n j (inr other) = put_other w.holder k t n other ∙ is.nobody n (still n true other j)

      by_delay : (n : ℕ) → contains (finset.remove u k) n ≡ false → (n ≡ k) ⊎ (n ≡ k → ⊥) → get w.delay n ≡ get s.delay n
      by_delay n j (inl same) = ap (get w.delay) same ∙ w_none ∙ sym s_none ∙ sym (ap (get s.delay) same)
      by_delay n j (inr other) = is.delay n (still n false other j)

      by_alloc : (a n : ℕ) → contains (finset.remove u k) n ≡ false → (n ≡ k) ⊎ (n ≡ k → ⊥) → (get w.alloc a ≡ Some n) ↔ (get s.alloc a ≡ Some n)
      by_alloc a n j (inl same) = (λ h. absurd (w_has a (h ∙ ap Some same)), λ h. absurd (s_has a (h ∙ ap Some same)))
      by_alloc a n j (inr other) = is.alloc a n (still n false other j)

  -- it is not known any longer who holds the ONU-ID
  agrees_unknown : (k : ℕ) (t : Serial) → get w.holder k ≡ None → Agrees (finset.insert u k) w (record s { holder = insert s.holder k t })
  agrees_unknown k t none =
      record {
        holder = λ n j. is.holder n (known n j) ∙ sym (put_other s.holder k t n (differs n j));
        nobody = λ n j. by_nobody n j (cases_eq n k);
        delay = λ n j. is.delay n (known n j);
        alloc = λ a n j. is.alloc a n (known n j);
        disabled = is.disabled;
      }
    where
      differs : (n : ℕ) → contains (finset.insert u k) n ≡ false → n ≡ k → ⊥
      differs n j same = false≢true (sym j ∙ ap (contains (finset.insert u k)) same ∙ in_put_same u k)

      known : (n : ℕ) → contains (finset.insert u k) n ≡ false → contains u n ≡ false
      known n j = sym (in_put_other u k n (differs n j)) ∙ j

      by_nobody : (n : ℕ) → contains (finset.insert u k) n ≡ true → (n ≡ k) ⊎ (n ≡ k → ⊥) → get w.holder n ≡ None
      by_nobody n j (inl same) = ap (get w.holder) same ∙ none
      by_nobody n j (inr other) = is.nobody n (sym (in_put_other u k n other) ∙ j)

  -- ---- the messages that drop nothing

  agrees_ranged : (k eqd : ℕ) → Agrees u (record w { delay = insert w.delay k eqd }) (record s { delay = insert s.delay k eqd })
  agrees_ranged k eqd = record { holder = is.holder; nobody = is.nobody; delay = λ n j. by_key n j (cases_eq n k); alloc = is.alloc; disabled = is.disabled }
    where
      by_key : (n : ℕ) → contains u n ≡ false → (n ≡ k) ⊎ (n ≡ k → ⊥) → get (insert w.delay k eqd) n ≡ get (insert s.delay k eqd) n
      by_key n j (inl same) = ap (get (insert w.delay k eqd)) same ∙ put_same w.delay k eqd ∙ sym (put_same s.delay k eqd) ∙ sym (ap (get (insert s.delay k eqd)) same)
      by_key n j (inr other) = put_other w.delay k eqd n other ∙ is.delay n j ∙ sym (put_other s.delay k eqd n other)

  agrees_given : (k a : ℕ) → Agrees u (record w { alloc = insert w.alloc a k }) (record s { alloc = insert s.alloc a k })
  agrees_given k a = record { holder = is.holder; nobody = is.nobody; delay = is.delay; alloc = λ x n j. by_key x n j (cases_eq x a); disabled = is.disabled }
    where
      by_key : (x n : ℕ) → contains u n ≡ false → (x ≡ a) ⊎ (x ≡ a → ⊥) → (get (insert w.alloc a k) x ≡ Some n) ↔ (get (insert s.alloc a k) x ≡ Some n)
      by_key x n j (inl same) =
          let one : get (insert w.alloc a k) x ≡ get (insert s.alloc a k) x = ap (get (insert w.alloc a k)) same ∙ put_same w.alloc a k ∙ sym (put_same s.alloc a k) ∙ sym (ap (get (insert s.alloc a k)) same) in
          (λ h. sym one ∙ h, λ h. one ∙ h)
      by_key x n j (inr other) = (λ h. put_other s.alloc a k x other ∙ (is.alloc x n j).0 (sym (put_other w.alloc a k x other) ∙ h), λ h. put_other w.alloc a k x other ∙ (is.alloc x n j).1 (sym (put_other s.alloc a k x other) ∙ h))

  agrees_back : (a : ℕ) → Agrees u (record w { alloc = remove w.alloc a }) (record s { alloc = remove s.alloc a })
  agrees_back a = record { holder = is.holder; nobody = is.nobody; delay = is.delay; alloc = λ x n j. by_key x n j (cases_eq x a); disabled = is.disabled }
    where
      by_key : (x n : ℕ) → contains u n ≡ false → (x ≡ a) ⊎ (x ≡ a → ⊥) → (get (remove w.alloc a) x ≡ Some n) ↔ (get (remove s.alloc a) x ≡ Some n)
      by_key x n j (inl same) =
          let one : get (remove w.alloc a) x ≡ get (remove s.alloc a) x = ap (get (remove w.alloc a)) same ∙ removed_same w.alloc a ∙ sym (removed_same s.alloc a) ∙ sym (ap (get (remove s.alloc a)) same) in
          (λ h. sym one ∙ h, λ h. one ∙ h)
      by_key x n j (inr other) = (λ h. removed_other s.alloc a x other ∙ (is.alloc x n j).0 (sym (removed_other w.alloc a x other) ∙ h), λ h. removed_other w.alloc a x other ∙ (is.alloc x n j).1 (sym (removed_other s.alloc a x other) ∙ h))

  agrees_popped : (all : Bool) → Agrees u (popped_up w all) (popped_up s all)
  agrees_popped true = record { holder = is.holder; nobody = is.nobody; delay = λ n j. refl; alloc = is.alloc; disabled = is.disabled }
  agrees_popped false = is

  -- ---- the disabled serial numbers

  pub agrees_disabled : (d e : FinSet serial_cmp) → ((t : Serial) → contains d t ≡ true → contains e t ≡ true) → Agrees u (record w { disabled = d }) (record s { disabled = e })
  agrees_disabled d e within = record { holder = is.holder; nobody = is.nobody; delay = is.delay; alloc = is.alloc; disabled = within }

  or_within : (b c d : Bool) → (c ≡ true → d ≡ true) → (b || c) ≡ true → (b || d) ≡ true
  or_within true c d f h = refl
  or_within false c d f h = f h

  and_within : (b c d : Bool) → (c ≡ true → d ≡ true) → (b && c) ≡ true → (b && d) ≡ true
  and_within true c d f h = f h
  and_within false c d f h = absurd (false≢true h)

  put_within : (t x : Serial) → contains (finset.insert w.disabled t) x ≡ true → contains (finset.insert s.disabled t) x ≡ true
  put_within t x h = contains-insert serials_total s.disabled t x ∙ or_within (eq_by_cmp serial_cmp x t) (contains w.disabled x) (contains s.disabled x) (is.disabled x) (sym (contains-insert serials_total w.disabled t x) ∙ h)

  right_within : (t x : Serial) → contains w.disabled x ≡ true → contains (finset.insert s.disabled t) x ≡ true
  right_within t x h = contains-insert serials_total s.disabled t x ∙ or_right (eq_by_cmp serial_cmp x t) (contains s.disabled x) (is.disabled x h)
    where
      or_right : (b c : Bool) → c ≡ true → (b || c) ≡ true
      or_right true c e = refl
      or_right false c e = e

  removed_within : (t x : Serial) → contains (finset.remove w.disabled t) x ≡ true → contains (finset.remove s.disabled t) x ≡ true
  removed_within t x h = contains-remove serials_total s.disabled t x ∙ and_within (not (eq_by_cmp serial_cmp x t)) (contains w.disabled x) (contains s.disabled x) (is.disabled x) (sym (contains-remove serials_total w.disabled t x) ∙ h)

-- ---- any message

-- each unit that is known is of a serial number that is followed
abbrev pub AreFollowed : Watch → Type 0
AreFollowed w = (n : ℕ) (t : Serial) → get w.seen.holder n ≡ Some t → (a : ℕ) × (get w.asks t ≡ Some a)

module _ (w : Watch) (s : Observed) (is : Agrees w.unknown w.seen s) (followed : (n : ℕ) (t : Serial) → get w.seen.holder n ≡ Some t → can_follow w t ≡ true) where
  agrees_assigned : (k : ℕ) (t : Serial) → k ≤ 253 → Agrees (unknown_after w (AssignOnu k t)) (seen_after w (AssignOnu k t)) (observed_after s (AssignOnu k t))
  agrees_assigned k t low =
      subst (λ l. Agrees (cond l (cond (can_follow w t) (finset.remove w.unknown k) (finset.insert w.unknown k)) w.unknown) (cond (can_follow w t) (cond l (record left { holder = insert left.holder k t }) left) left) (cond l (record right { holder = insert right.holder k t }) right)) (sym yes)
      (by_room (can_follow w t))
    where
      yes : is_unit_number k ≡ true
      yes = le-leb k 253 low

      left : Observed
      left = units_without w.seen (drops w.seen (AssignOnu k t))

      right : Observed
      right = units_without s (drops s (AssignOnu k t))

      both : Agrees w.unknown left right
      both = agrees_without w.unknown w.seen s is (drops w.seen (AssignOnu k t)) (drops s (AssignOnu k t)) (same_drops w.unknown w.seen s is (AssignOnu k t))

      own : (seen : Observed) → drops seen (AssignOnu k t) k ≡ true
      own seen = ap (λ b. b && (k == k || is_of seen t k)) yes ∙ ap (λ b. b || is_of seen t k) (eq-eqb k k refl)

      no_holder : (seen : Observed) → get (units_without seen (drops seen (AssignOnu k t))).holder k ≡ None
      no_holder seen = dropped_at seen.holder (drops seen (AssignOnu k t)) k ∙ ap (λ b. cond b None (get seen.holder k)) (own seen)

      no_delay : (seen : Observed) → get (units_without seen (drops seen (AssignOnu k t))).delay k ≡ None
      no_delay seen = dropped_at seen.delay (drops seen (AssignOnu k t)) k ∙ ap (λ b. cond b None (get seen.delay k)) (own seen)

      no_alloc : (seen : Observed) (a : ℕ) → get (units_without seen (drops seen (AssignOnu k t))).alloc a ≡ Some k → ⊥
      no_alloc seen a h =
          let kept = (kept_number (drops seen (AssignOnu k t)) (get seen.alloc a) k).0 (sym (dropped_at seen.alloc (λ x. some_passes (drops seen (AssignOnu k t)) (get seen.alloc x)) a) ∙ h) in
          false≢true (sym kept.1 ∙ own seen)

      by_room : (b : Bool) → Agrees (cond b (finset.remove w.unknown k) (finset.insert w.unknown k)) (cond b (record left { holder = insert left.holder k t }) left) (record right { holder = insert right.holder k t })
      by_room true = agrees_known w.unknown left right both k t (no_delay w.seen) (no_delay s) (no_alloc w.seen) (no_alloc s)
      by_room false = agrees_unknown w.unknown left right both k t (no_holder w.seen)

  agrees_barred : (t : Serial) → Agrees w.unknown (seen_after w (DisableSerial t)) (observed_after s (DisableSerial t))
  agrees_barred t = by_room (can_follow w t) refl
    where
      none_of : can_follow w t ≡ false → (n : ℕ) (o : Option Serial) → get w.seen.holder n ≡ o → some_passes (λ h. same_serial t h) o ≡ false
      none_of full n None at = refl
      none_of full n (Some x) at =
          elim (cases_Bool (same_serial t x)) [
            | inl b ↦ absurd (false≢true (sym full ∙ followed n t (at ∙ sym (ap Some (same_serial-true t x b)))))
            | inr b ↦ b
          ]

      by_room : (b : Bool) → can_follow w t ≡ b
          → Agrees w.unknown (cond b (record (units_without w.seen (drops w.seen (DisableSerial t))) { disabled = finset.insert w.seen.disabled t }) w.seen) (record (units_without s (drops s (DisableSerial t))) { disabled = finset.insert s.disabled t })
      by_room true room =
          agrees_disabled w.unknown _ _ (agrees_without w.unknown w.seen s is (drops w.seen (DisableSerial t)) (drops s (DisableSerial t)) (same_drops w.unknown w.seen s is (DisableSerial t))) _ _
          (put_within w.unknown w.seen s is t)
      by_room false full =
          agrees_disabled w.unknown _ _ (agrees_still w.unknown w.seen s is (drops s (DisableSerial t)) (λ n j. sym (same_drops w.unknown w.seen s is (DisableSerial t) n j) ∙ none_of full n (get w.seen.holder n) refl)) w.seen.disabled _
          (right_within w.unknown w.seen s is t)

  pub agrees_after : (m : Down) → KeepsRules s m → Agrees (unknown_after w m) (seen_after w m) (observed_after s m)
  agrees_after (AssignOnu k t) h = agrees_assigned k t h.low
  agrees_after (RangingTime k eqd) h = agrees_ranged w.unknown w.seen s is k eqd
  agrees_after (Deactivate k) h = agrees_without w.unknown w.seen s is (drops w.seen (Deactivate k)) (drops s (Deactivate k)) (same_drops w.unknown w.seen s is (Deactivate k))
  agrees_after (DisableSerial t) h = agrees_barred t
  agrees_after (EnableSerial t) h = agrees_disabled w.unknown w.seen s is _ _ (removed_within w.unknown w.seen s is t)
  agrees_after EnableAll h = agrees_disabled w.unknown w.seen s is _ _ (λ t e. e)
  agrees_after (AssignAlloc k a true) h = agrees_given w.unknown w.seen s is k a
  agrees_after (AssignAlloc k a false) h = agrees_back w.unknown w.seen s is a
  agrees_after (Popup k) h = agrees_popped w.unknown w.seen s is (k == 255)
  agrees_after (UpstreamOverhead burst) h = is
  agrees_after NoMessage h = absurd h
  agrees_after (Other id octet1 body) h = absurd h
