-- What is true of an observer once more messages are owed.
use Rattle.std.proofs.Common.{◌≡◌, ℕ, zero, suc, ◌≤◌, Bool, ◌&&◌, ◌||◌, List, [], ◌∷◌, ◌++◌, ◌⊎◌, inl, inr, refl, sym, ap, subst, ◌∙◌, append_assoc}
use Rattle.std.specs.Prelude.{replicate}
use Rattle.std.specs.FinMap.{get}
use Rattle.std.specs.FinSet.{contains}
use Rattle.gp_ploam.specs.declared.message.Serial.{Serial}
use Rattle.gp_ploam.specs.declared.message.Down.{Down}
use Rattle.gp_ploam.specs.declared.message.Down.TheVariants.{NoMessage}
use Rattle.gp_machine.specs.State.{PortState}
use Rattle.gp_machine.specs.Messages.{three_times}
use Rattle.gp_laws.proofs.RunMessages.{three_times-append}
use Rattle.gp_observer.specs.Observer.{Observed, observed_after_all}
use Rattle.gp_observer.specs.Knows.{IsKnown}
use Rattle.gp_observer.specs.Watch.{Watch, passes_over, same_message}
use Rattle.gp_observer.specs.Rules.{Settings}
use Rattle.gp_observer.proofs.Keeping.{AllKeepRules}
use Rattle.gp_observer.proofs.Agreeing.{Agrees}
use Rattle.gp_observer.proofs.Asking.{assigns, one_if}
use Rattle.gp_observer.proofs.Answering.{Unmoved, AreOwed, are_owed_weaker, are_owed_both}
use Rattle.gp_observer.proofs.Causing.{IsRangingWindow}
use Rattle.gp_observer.proofs.TellingFrames.{after_both, keep_both}
use Rattle.gp_observer.proofs.Watching.{Answered, IsTold, IsPassedOver, Watching}
use Rattle.gp_observer.proofs.Listening.{Hearing}

-- nothing is to be told where nothing is owed
pub none_left : (settings : Settings) (first : Bool) (p : PortState) (w : Watch) (s : Observed) (ms : List Down) → Watching settings first p w s ms → p.owed ≡ [] → ms ≡ []
none_left settings first p w s [] is none = refl
none_left settings first p w s (m ∷ ms) is none = absurd (by_copies is.left (sym none ∙ is.copies))
  where
    no_head : (x : Down) (xs : List Down) → ◌≡◌ {A = List Down} [] (x ∷ xs) → ⊥
    no_head x xs e = cc

    by_copies : (n : ℕ) → ◌≡◌ {A = List Down} [] (replicate n is.copied ++ three_times (m ∷ ms)) → ⊥
    by_copies zero e = no_head m (m ∷ m ∷ three_times ms) e
    by_copies (suc n) e = no_head is.copied (replicate n is.copied ++ three_times (m ∷ ms)) e

module _ (settings : Settings) (first : Bool) (p q : PortState) (w new : Watch) (s : Observed) (ms ns : List Down) (is : Watching settings first p w s ms) (asked : Serial → Bool) (hears : Hearing w new asked) where
  still_answered : (n eqd : ℕ) → Answered settings w n eqd → Answered settings new n eqd
  still_answered n eqd h j = hears.answers settings n eqd (h (sym (ap (λ u. contains u n) hears.unknown) ∙ j))

  -- behind all that is to be told
  pub watching_more : IsKnown q.rows q.disabled (observed_after_all (observed_after_all s ms) ns) → AllKeepRules (observed_after_all s ms) ns → ((t : Serial) → assigns t ns ≤ one_if (asked t))
      → AreOwed (λ n eqd. Answered settings new n eqd × Unmoved s n ms) (observed_after_all s ms) ns → q.owed ≡ p.owed ++ three_times ns → ((n : ℕ) → IsRangingWindow q.window n → Unmoved s n (ms ++ ns))
      → Watching settings first q new s (ms ++ ns)
  watching_more known keep few answered owed window =
      record {
        known = subst (λ x. IsKnown q.rows q.disabled x) (sym (after_both ms ns s)) known;
        keep = keep_both ms ns s is.keep keep;
        agrees = subst (λ x. Agrees new.unknown x s) (sym hears.seen) (subst (λ u. Agrees u w.seen s) (sym hears.unknown) is.agrees);
        whole = λ heard h. let it = is.whole heard (hears.room h) in (hears.seen ∙ it.0, λ n. ap (λ u. contains u n) hears.unknown ∙ it.1 n);
        followed = λ n t h. let it = is.followed n t (sym (ap (λ (x : Observed). get x.holder n) hears.seen) ∙ h) in hears.followed t it.0 it.1;
        begun = hears.midway ∙ is.begun;
        asked = λ heard. hears.asks ms ns few (is.asked heard);
        answered = are_owed_both (Answered settings new) s ms ns (are_owed_weaker (Answered settings w) (Answered settings new) s ms still_answered is.answered) answered;
        left = is.left;
        copied = is.copied;
        copies = owed ∙ ap (λ (xs : List Down). xs ++ three_times ns) is.copies ∙ append_assoc (replicate is.left is.copied) (three_times ms) (three_times ns)
            ∙ ap (λ (xs : List Down). replicate is.left is.copied ++ xs) (sym (three_times-append ms ns));
        message = is.message;
        phase = by_phase is.phase;
        numbers = is.numbers;
        window = window;
      }
    where
      same_passing : (m : Down) → passes_over new m ≡ passes_over w m
      same_passing m = ap (λ b. b && (same_message new.last NoMessage || same_message new.last m)) hears.cut ∙ ap (λ x. w.cut && (same_message x NoMessage || same_message x m)) hears.last

      by_phase : IsTold w is.left is.copied ⊎ IsPassedOver first w is.left is.copied → IsTold new is.left is.copied ⊎ IsPassedOver first new is.left is.copied
      by_phase (inl told) = inl (record { cut = hears.cut ∙ told.cut; to_come = hears.to_come ∙ told.to_come; last = λ k e. hears.last ∙ told.last k e })
      by_phase (inr over) =
          inr
          (record {
            late = over.late;
            cut = hears.cut ∙ over.cut;
            to_come = hears.to_come ∙ over.to_come;
            seen = hears.seen ∙ over.seen;
            unknown = hears.unknown ∙ over.unknown;
            passed = λ k e. same_passing is.copied ∙ over.passed k e;
          })
