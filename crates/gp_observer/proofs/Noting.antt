-- What is true of an observer once a message is told.
use Rattle.std.proofs.Common.{◌≡◌, ℕ, ◌-◌, ◌==◌, Bool, true, false, cond, ◌&&◌, ◌||◌, List, ◌∷◌, Option, None, Some, ◌⊎◌, inl, inr, refl, sym, ap, subst, ◌∙◌, eq-eqb}
use Rattle.std.specs.Prelude.{nat_lt}
use Rattle.std.specs.FinMap.{get, insert, len}
use Rattle.std.specs.FinSet.{contains}
use Rattle.std.specs.FinSet as finset
use Rattle.std.proofs.lemmas.Bool.{cases_eq, false≢true, le-leb}
use Rattle.gp_ploam.specs.declared.message.Serial.{Serial}
use Rattle.gp_ploam.specs.declared.message.Down.{Down}
use Rattle.gp_ploam.specs.declared.message.Down.TheVariants.{AssignOnu, Deactivate, DisableSerial, AssignAlloc, Popup}
use Rattle.gp_observer.specs.Observer.{Observed, is_of, is_unit_number, drops, units_without, with_holder, observed_after, popped_up}
use Rattle.gp_observer.specs.Watch.{Watch, most_followed, can_follow, seen_after, asks_after, unknown_after, noted}
use Rattle.gp_observer.specs.Rules.{Settings}
use Rattle.gp_observer.proofs.Keeping.{KeepsRules}
use Rattle.gp_observer.proofs.Listed.{put_same, put_other, dropped_at}
use Rattle.gp_observer.proofs.Numbers.{in_put_other, in_removed_same, in_removed_other, was_there}
use Rattle.gp_observer.proofs.Agreeing.{Agrees, AreFollowed, same_drops, agrees_after}
use Rattle.gp_observer.proofs.Asking.{HaveAsked, stays_followed, is_followed, followed_can, room_before, room_can, asked_assigned, asked_followed}
use Rattle.gp_observer.proofs.Watching.{Answered}

module _ (w : Watch) (s : Observed) (is : Agrees w.unknown w.seen s) (followed : AreFollowed w) where
  can : (n : ℕ) (t : Serial) → get w.seen.holder n ≡ Some t → can_follow w t ≡ true
  can n t h = let it = followed n t h in followed_can w.asks t it.0 it.1

  pub agrees_told : (m : Down) → KeepsRules s m → Agrees (unknown_after w m) (seen_after w m) (observed_after s m)
  agrees_told m h = agrees_after w s is can m h

  -- an ONU-ID that isn't moved and is known was known
  known_before : (m : Down) (n : ℕ) → KeepsRules s m → drops s m n ≡ false → contains (unknown_after w m) n ≡ false → contains w.unknown n ≡ false
  known_before (AssignOnu k t) n h stays j = by_room (can_follow w t) (sym (ap (λ l. contains (cond l (cond (can_follow w t) (finset.remove w.unknown k) (finset.insert w.unknown k)) w.unknown) n) low) ∙ j)
    where
      low : is_unit_number k ≡ true
      low = le-leb k 253 h.low

      or_false : (b c : Bool) → (b || c) ≡ false → b ≡ false
      or_false true c e = e
      or_false false c e = refl

      other : n ≡ k → ⊥
      other same = false≢true (sym (or_false (n == k) (is_of s t n) (sym (ap (λ b. b && (n == k || is_of s t n)) low) ∙ stays)) ∙ eq-eqb n k same)

      by_room : (b : Bool) → contains (cond b (finset.remove w.unknown k) (finset.insert w.unknown k)) n ≡ false → contains w.unknown n ≡ false
      by_room true e = sym (in_removed_other w.unknown k n other) ∙ e
      by_room false e = sym (in_put_other w.unknown k n other) ∙ e
  known_before _ n h stays j = j

  pub answered_told : (settings : Settings) (m : Down) → KeepsRules s m → (n eqd : ℕ) → Answered settings w n eqd × (drops s m n ≡ false) → Answered settings (noted w m) n eqd
  answered_told settings m h n eqd its j =
      let before = known_before m n h its.1 j in
      let it = its.0 before in
      record {
        its = it.its;
        there = dropped_at w.answers (drops w.seen m) n ∙ ap (λ b. cond b None (get w.answers n)) (same_drops w.unknown w.seen s is m n before ∙ its.1) ∙ it.there;
        fits = it.fits;
      }

pub asked_told : (w : Watch) (m : Down) (ms : List Down) → HaveAsked w.asks (m ∷ ms) → HaveAsked (asks_after w m) ms
asked_told w (AssignOnu n s) ms h = asked_assigned w.asks n s ms h
asked_told w (DisableSerial s) ms h = asked_followed w.asks s ms h
asked_told w _ ms h = h

-- with room for more, all is noted
pub seen_whole : (w : Watch) (m : Down) → nat_lt (len w.asks) most_followed ≡ true → seen_after w m ≡ observed_after w.seen m
seen_whole w (AssignOnu k t) room = ap (λ b. cond b (observed_after w.seen (AssignOnu k t)) (units_without w.seen (drops w.seen (AssignOnu k t)))) (room_can w.asks t room)
seen_whole w (DisableSerial t) room = ap (λ b. cond b (observed_after w.seen (DisableSerial t)) w.seen) (room_can w.asks t room)
seen_whole w _ room = refl

unknown_whole : (w : Watch) (m : Down) → nat_lt (len w.asks) most_followed ≡ true → ((n : ℕ) → contains w.unknown n ≡ false) → (n : ℕ) → contains (unknown_after w m) n ≡ false
unknown_whole w (AssignOnu k t) room none n = by_low (is_unit_number k)
  where
    by_key : (n ≡ k) ⊎ (n ≡ k → ⊥) → contains (finset.remove w.unknown k) n ≡ false
    by_key (inl same) = ap (contains (finset.remove w.unknown k)) same ∙ in_removed_same w.unknown k
    by_key (inr other) = in_removed_other w.unknown k n other ∙ none n

    by_low : (b : Bool) → contains (cond b (cond (can_follow w t) (finset.remove w.unknown k) (finset.insert w.unknown k)) w.unknown) n ≡ false
    by_low true = ap (λ b. contains (cond b (finset.remove w.unknown k) (finset.insert w.unknown k)) n) (room_can w.asks t room) ∙ by_key (cases_eq n k)
    by_low false = none n
unknown_whole w _ room none n = none n

room_told : (w : Watch) (m : Down) → nat_lt (len (asks_after w m)) most_followed ≡ true → nat_lt (len w.asks) most_followed ≡ true
room_told w (AssignOnu k t) h = room_before w.asks t (λ a. a - 1) h
room_told w (DisableSerial t) h = room_before w.asks t (λ a. a) h
room_told w _ h = h

pub whole_told : (w : Watch) (s : Observed) (m : Down) → (nat_lt (len w.asks) most_followed ≡ true → (w.seen ≡ s) × ((n : ℕ) → contains w.unknown n ≡ false))
    → nat_lt (len (asks_after w m)) most_followed ≡ true → (seen_after w m ≡ observed_after s m) × ((n : ℕ) → contains (unknown_after w m) n ≡ false)
whole_told w s m whole h =
    let room = room_told w m h in
    (seen_whole w m room ∙ ap (λ x. observed_after x m) (whole room).0, unknown_whole w m room (whole room).1)

-- who is known is followed
pub followed_told : (w : Watch) (m : Down) → AreFollowed w → (n : ℕ) (t : Serial) → get (seen_after w m).holder n ≡ Some t → (a : ℕ) × (get (asks_after w m) t ≡ Some a)
followed_told w (AssignOnu k s) followed n t h = by_room (can_follow w s) refl h
  where
    left : Observed
    left = units_without w.seen (drops w.seen (AssignOnu k s))

    were : get left.holder n ≡ Some t → (a : ℕ) × (get (asks_after w (AssignOnu k s)) t ≡ Some a)
    were e =
        let it = followed n t (was_there (drops w.seen (AssignOnu k s) n) (get w.seen.holder n) t (sym (dropped_at w.seen.holder (drops w.seen (AssignOnu k s)) n) ∙ e)).0 in
        stays_followed w.asks s (λ a. a - 1) t it.0 it.1

    by_key : can_follow w s ≡ true → (n ≡ k) ⊎ (n ≡ k → ⊥) → get (insert left.holder k s) n ≡ Some t → (a : ℕ) × (get (asks_after w (AssignOnu k s)) t ≡ Some a)
    by_key room (inl same) e =
        let it : s ≡ t = one (sym (ap (get (insert left.holder k s)) same ∙ put_same left.holder k s) ∙ e) in
        subst (λ (x : Serial). (a : ℕ) × (get (asks_after w (AssignOnu k s)) x ≡ Some a)) it (is_followed w.asks s (λ a. a - 1) room)
      where
        one : ◌≡◌ {A = Option Serial} (Some s) (Some t) → s ≡ t
        one e = cc
    by_key room (inr other) e = were (sym (put_other left.holder k s n other) ∙ e)

    by_low : can_follow w s ≡ true → (b : Bool) → get (cond b (record left { holder = insert left.holder k s }) left).holder n ≡ Some t → (a : ℕ) × (get (asks_after w (AssignOnu k s)) t ≡ Some a)
    by_low room true e = by_key room (cases_eq n k) e
    by_low room false e = were e

    by_room : (b : Bool) → can_follow w s ≡ b → get (cond b (with_holder left k s) left).holder n ≡ Some t → (a : ℕ) × (get (asks_after w (AssignOnu k s)) t ≡ Some a)
    by_room true room e = by_low room (is_unit_number k) e
    by_room false full e = were e
followed_told w (Deactivate k) followed n t h = followed n t (was_there (drops w.seen (Deactivate k) n) (get w.seen.holder n) t (sym (dropped_at w.seen.holder (drops w.seen (Deactivate k)) n) ∙ h)).0
followed_told w (DisableSerial s) followed n t h = by_room (can_follow w s) h
  where
    still : get w.seen.holder n ≡ Some t → (a : ℕ) × (get (asks_after w (DisableSerial s)) t ≡ Some a)
    still e = let it = followed n t e in stays_followed w.asks s (λ a. a) t it.0 it.1

    by_room : (b : Bool) → get (cond b (observed_after w.seen (DisableSerial s)) w.seen).holder n ≡ Some t → (a : ℕ) × (get (asks_after w (DisableSerial s)) t ≡ Some a)
    by_room true e = still (was_there (drops w.seen (DisableSerial s) n) (get w.seen.holder n) t (sym (dropped_at w.seen.holder (drops w.seen (DisableSerial s)) n) ∙ e)).0
    by_room false e = still e
followed_told w (AssignAlloc k a true) followed n t h = followed n t h
followed_told w (AssignAlloc k a false) followed n t h = followed n t h
followed_told w (Popup k) followed n t h = by_all (k == 255) h
  where
    by_all : (b : Bool) → get (popped_up w.seen b).holder n ≡ Some t → (a : ℕ) × (get w.asks t ≡ Some a)
    by_all true e = followed n t e
    by_all false e = followed n t e
followed_told w _ followed n t h = followed n t h
