-- What an observer hears of a copy that is sent.
use Rattle.std.proofs.Common.{◌≡◌, ℕ, zero, suc, ◌-◌, ◌==◌, Bool, true, false, cond, not, ◌&&◌, ◌||◌, List, [], ◌∷◌, ◌++◌, Some, ◌⊎◌, inl, inr, refl, sym, ap, subst, ◌∙◌, arith, drop}
use Rattle.std.specs.Prelude.{replicate}
use Rattle.std.proofs.lemmas.List.{append-nil}
use Rattle.std.proofs.lemmas.Bool.{false≢true, ne_eqb}
use Rattle.gp_volley.specs.Copies.{first_of}
use Rattle.gp_ploam.specs.declared.message.Down.{Down}
use Rattle.gp_ploam.specs.declared.message.Down.TheVariants.{NoMessage}
use Rattle.gp_machine.specs.State.{PortState}
use Rattle.gp_machine.specs.Frame.{state_begun}
use Rattle.gp_machine.specs.Messages.{three_times}
use Rattle.gp_observer.specs.Observer.{Observed, drops, observed_after}
use Rattle.gp_observer.specs.Watch.{Watch, numbers_below, passes_over, noted, same_message, tells, copy_heard}
use Rattle.gp_observer.specs.Rules.{Settings}
use Rattle.gp_observer.specs.Heard.{down_breaks, copy_breaks, message_rules, broken_of, watch_after_all, terminal_breaks}
use Rattle.gp_observer.specs.Fibre.{down_said}
use Rattle.gp_observer.proofs.Copies.{message_same}
use Rattle.gp_observer.proofs.Low.{low_after, agrees_nothing}
use Rattle.gp_observer.proofs.Agreeing.{Agrees}
use Rattle.gp_observer.proofs.Answering.{are_owed_weaker}
use Rattle.gp_observer.proofs.Judging.{message_breaks_none}
use Rattle.gp_observer.proofs.Watching.{IsMessage, keeps_message, after_message, breaks_message, Answered, IsTold, IsPassedOver, Watching}
use Rattle.gp_observer.proofs.Noting.{agrees_told, answered_told, asked_told, whole_told, followed_told}

-- what is known once the first copy that is owed was sent, and the messages that are still to be told
pub record Sent (settings : Settings) (first : Bool) (p : PortState) (w : Watch) (s : Observed) (ms : List Down) : Type 0 where
  pub new : Watch
  pub then : Observed
  pub rest : List Down
  pub watching : Watching settings first (state_begun p) new then rest
  pub hears : watch_after_all w (down_said (first_of p.owed)) ≡ new
  pub breaks_none : terminal_breaks settings w (down_said (first_of p.owed)) ≡ []

module _ (settings : Settings) (first : Bool) (p : PortState) (w : Watch) (s : Observed) where
  -- what the first copy gives, where it is a message
  module _ (m : Down) (later : List Down) (owed : p.owed ≡ m ∷ later) (message : IsMessage m) where
    hears_copy : watch_after_all w (down_said (first_of p.owed)) ≡ copy_heard w m
    hears_copy = ap (λ o. watch_after_all w (down_said o)) (ap first_of owed) ∙ after_message w m message

    breaks_copy : terminal_breaks settings w (down_said (first_of p.owed)) ≡ copy_breaks settings w m
    breaks_copy = ap (λ o. terminal_breaks settings w (down_said o)) (ap first_of owed) ∙ append-nil (down_breaks settings w (Some m)) ∙ breaks_message settings w m message

  -- it is passed over
  module _ (m : Down) (passes : passes_over w m ≡ true) where
    passed_heard : copy_heard w m ≡ record w { last = m }
    passed_heard = ap (λ b. cond b (record w { last = m }) (cond (tells w m) (record (noted w m) { last = m; to_come = 2; cut = false }) (record w { to_come = w.to_come - 1 }))) passes

    passed_breaks : copy_breaks settings w m ≡ []
    passed_breaks = ap (λ b. cond (not b && tells w m) (broken_of (message_rules settings w m)) []) passes

    passed_again : w.cut ≡ true → passes_over (record w { last = m }) m ≡ true
    passed_again cut = ap (λ b. b && (same_message m NoMessage || same_message m m)) cut ∙ ap (λ b. same_message m NoMessage || b) (message_same m) ∙ or_true (same_message m NoMessage)
      where
        or_true : (b : Bool) → (b || true) ≡ true
        or_true true = refl
        or_true false = refl

  -- or not
  module _ (m : Down) (passes : passes_over w m ≡ false) where
    copy_told : (b : Bool) → tells w m ≡ b → copy_heard w m ≡ cond b (record (noted w m) { last = m; to_come = 2; cut = false }) (record w { to_come = w.to_come - 1 })
    copy_told b is =
        ap (λ c. cond c (record w { last = m }) (cond (tells w m) (record (noted w m) { last = m; to_come = 2; cut = false }) (record w { to_come = w.to_come - 1 }))) passes
        ∙ ap (λ c. cond c (record (noted w m) { last = m; to_come = 2; cut = false }) (record w { to_come = w.to_come - 1 })) is

    told_breaks : (b : Bool) → tells w m ≡ b → copy_breaks settings w m ≡ cond b (broken_of (message_rules settings w m)) []
    told_breaks b is = ap (λ c. cond (not c && tells w m) (broken_of (message_rules settings w m)) []) passes ∙ ap (λ c. cond c (broken_of (message_rules settings w m)) []) is

  not_cut : (m : Down) → w.cut ≡ false → passes_over w m ≡ false
  not_cut m cut = ap (λ b. b && (same_message w.last NoMessage || same_message w.last m)) cut

  -- ---- one more copy of the message

  copy_sent : (ms : List Down) (is : Watching settings first p w s ms) (k : ℕ) → is.left ≡ suc k → Sent settings first p w s ms
  copy_sent ms is k more = by_phase is.phase
    where
      owed : p.owed ≡ is.copied ∷ (replicate k is.copied ++ three_times ms)
      owed = is.copies ∙ ap (λ n. replicate n is.copied ++ three_times ms) more

      by_phase : IsTold w is.left is.copied ⊎ IsPassedOver first w is.left is.copied → Sent settings first p w s ms
      by_phase (inl told) =
          record {
            new = record w { to_come = w.to_come - 1 };
            then = s;
            rest = ms;
            watching =
                record {
                  known = is.known;
                  keep = is.keep;
                  agrees = is.agrees;
                  whole = is.whole;
                  followed = is.followed;
                  begun = is.begun;
                  asked = is.asked;
                  answered = is.answered;
                  left = k;
                  copied = is.copied;
                  copies = ap (drop 1) owed;
                  message = λ j e. is.message k more;
                  phase = inl (record { cut = told.cut; to_come = let e = told.to_come in omega (arith, e, more); last = λ j e. told.last k more });
                  numbers = is.numbers;
                  window = is.window;
                };
            hears = hears_copy is.copied _ owed (is.message k more) ∙ copy_told is.copied (not_cut is.copied told.cut) false left_over;
            breaks_none = breaks_copy is.copied _ owed (is.message k more) ∙ told_breaks is.copied (not_cut is.copied told.cut) false left_over;
          }
        where
          left_over : tells w is.copied ≡ false
          left_over =
              ap (λ b. b || not (same_message w.last is.copied)) (ne_eqb w.to_come 0 (λ e. let same = told.to_come in omega (arith, same, more, e)))
              ∙ ap (λ x. not (same_message x is.copied)) (told.last k more) ∙ ap not (message_same is.copied)
      by_phase (inr over) =
          record {
            new = record w { last = is.copied };
            then = s;
            rest = ms;
            watching =
                record {
                  known = is.known;
                  keep = is.keep;
                  agrees = is.agrees;
                  whole = is.whole;
                  followed = is.followed;
                  begun = is.begun;
                  asked = is.asked;
                  answered = is.answered;
                  left = k;
                  copied = is.copied;
                  copies = ap (drop 1) owed;
                  message = λ j e. is.message k more;
                  phase = inr (record { late = over.late; cut = over.cut; to_come = over.to_come; seen = over.seen; unknown = over.unknown; passed = λ j e. passed_again is.copied (over.passed k more) over.cut });
                  numbers = is.numbers;
                  window = is.window;
                };
            hears = hears_copy is.copied _ owed (is.message k more) ∙ passed_heard is.copied (over.passed k more);
            breaks_none = breaks_copy is.copied _ owed (is.message k more) ∙ passed_breaks is.copied (over.passed k more);
          }

  -- ---- the first copy of the next message

  module _ (m : Down) (ms : List Down) (is : Watching settings first p w s (m ∷ ms)) (none : is.left ≡ 0) where
    owed_next : p.owed ≡ m ∷ m ∷ m ∷ three_times ms
    owed_next = is.copies ∙ ap (λ n. replicate n is.copied ++ three_times (m ∷ ms)) none

    next_message : IsMessage m
    next_message = keeps_message s m is.keep.0

    early : w.midway ≡ false → first ≡ true
    early e = by_first first (sym is.begun ∙ e)
      where
        by_first : (b : Bool) → not b ≡ false → b ≡ true
        by_first true h = refl
        by_first false h = absurd (false≢true (sym h))

    next_told : w.to_come ≡ 0 → passes_over w m ≡ false → Sent settings first p w s (m ∷ ms)
    next_told nothing passes =
        record {
          new = record (noted w m) { last = m; to_come = 2; cut = false };
          then = observed_after s m;
          rest = ms;
          watching =
              record {
                known = is.known;
                keep = is.keep.1;
                agrees = agrees_told w s is.agrees is.followed m is.keep.0;
                whole = λ heard h. whole_told w s m (is.whole heard) h;
                followed = λ n t h. followed_told w m is.followed n t h;
                begun = is.begun;
                asked = λ heard. asked_told w m ms (is.asked heard);
                answered = are_owed_weaker (λ n eqd. Answered settings w n eqd × (drops s m n ≡ false)) (Answered settings (noted w m)) (observed_after s m) ms (λ n eqd h. answered_told w s is.agrees is.followed settings m is.keep.0 n eqd h) is.answered.1;
                left = 2;
                copied = m;
                copies = ap (drop 1) owed_next;
                message = λ k e. next_message;
                phase = inl (record { cut = refl; to_come = refl; last = λ k e. refl });
                numbers = low_after s m is.keep.0 is.numbers;
                window = λ n asks. (is.window n asks).1;
              };
          hears = hears_copy m _ owed_next next_message ∙ copy_told m passes true begins;
          breaks_none = breaks_copy m _ owed_next next_message ∙ told_breaks m passes true begins ∙ message_breaks_none w s is.agrees settings m ms nothing is.keep.0 (λ e. is.asked (early e)) is.answered.0;
        }
      where
        begins : tells w m ≡ true
        begins = ap (λ n. n == 0 || not (same_message w.last m)) nothing

    next_passed : IsPassedOver first w is.left is.copied → passes_over w m ≡ true → Sent settings first p w s (m ∷ ms)
    next_passed over passes =
        record {
          new = record w { last = m };
          then = observed_after s m;
          rest = ms;
          watching =
              record {
                known = is.known;
                keep = is.keep.1;
                agrees = subst (λ u. Agrees u w.seen (observed_after s m)) (sym over.unknown) (subst (λ x. Agrees (numbers_below 254) x (observed_after s m)) (sym over.seen) (agrees_nothing (observed_after s m) (low_after s m is.keep.0 is.numbers)));
                whole = λ heard h. absurd (false≢true (sym over.late ∙ heard));
                followed = is.followed;
                begun = is.begun;
                asked = λ heard. absurd (false≢true (sym over.late ∙ heard));
                answered = are_owed_weaker (λ n eqd. Answered settings w n eqd × (drops s m n ≡ false)) (Answered settings w) (observed_after s m) ms (λ n eqd h. h.0) is.answered.1;
                left = 2;
                copied = m;
                copies = ap (drop 1) owed_next;
                message = λ k e. next_message;
                phase = inr (record { late = over.late; cut = over.cut; to_come = over.to_come; seen = over.seen; unknown = over.unknown; passed = λ k e. passed_again m passes over.cut });
                numbers = low_after s m is.keep.0 is.numbers;
                window = λ n asks. (is.window n asks).1;
              };
          hears = hears_copy m _ owed_next next_message ∙ passed_heard m passes;
          breaks_none = breaks_copy m _ owed_next next_message ∙ passed_breaks m passes;
        }

    next_sent : Sent settings first p w s (m ∷ ms)
    next_sent = by_phase is.phase
      where
        by_pass : IsPassedOver first w is.left is.copied → (b : Bool) → passes_over w m ≡ b → Sent settings first p w s (m ∷ ms)
        by_pass over true passes = next_passed over passes
        by_pass over false passes = next_told over.to_come passes

        by_phase : IsTold w is.left is.copied ⊎ IsPassedOver first w is.left is.copied → Sent settings first p w s (m ∷ ms)
        by_phase (inl told) = next_told (told.to_come ∙ none) (not_cut m told.cut)
        by_phase (inr over) = by_pass over (passes_over w m) refl

  -- ---- nothing is owed

  none_sent : (is : Watching settings first p w s []) → is.left ≡ 0 → Sent settings first p w s []
  none_sent is none =
      record {
        new = w;
        then = s;
        rest = [];
        watching =
            record {
              known = is.known;
              keep = is.keep;
              agrees = is.agrees;
              whole = is.whole;
              followed = is.followed;
              begun = is.begun;
              asked = is.asked;
              answered = is.answered;
              left = is.left;
              copied = is.copied;
              copies = ap (drop 1) owed ∙ ap (λ n. replicate n is.copied ++ []) (sym none);
              message = is.message;
              phase = is.phase;
              numbers = is.numbers;
              window = is.window;
            };
        hears = ap (λ o. watch_after_all w (down_said o)) (ap first_of owed);
        breaks_none = ap (λ o. terminal_breaks settings w (down_said o)) (ap first_of owed);
      }
    where
      owed : p.owed ≡ []
      owed = is.copies ∙ ap (λ n. replicate n is.copied ++ []) none

  pub frame_sends : (ms : List Down) → Watching settings first p w s ms → Sent settings first p w s ms
  frame_sends ms is = by_copies is.left refl
    where
      by_list : (xs : List Down) (h : Watching settings first p w s xs) → h.left ≡ 0 → Sent settings first p w s xs
      by_list [] h none = none_sent h none
      by_list (x ∷ xs) h none = next_sent x xs h none

      by_copies : (n : ℕ) → is.left ≡ n → Sent settings first p w s ms
      by_copies (suc k) more = copy_sent ms is k more
      by_copies zero none = by_list ms is none
