-- What an observer hears, in parts.
use Rattle.std.proofs.Common.{◌≡◌, Bool, ℕ, cond, List, [], ◌∷◌, ◌++◌, Option, ◌⊎◌, inl, inr, refl, sym, ap, subst, ◌∙◌, append_assoc}
use Rattle.std.proofs.lemmas.List.{append-nil}
use Rattle.gp_volley.specs.Copies.{all_copies}
use Rattle.gp_ploam.specs.declared.message.Down.{Down}
use Rattle.gp_machine.specs.State.{PortState}
use Rattle.gp_machine.specs.Changes.{Change, Owes, state_after_change, state_after, state_owing, owed_by}
use Rattle.gp_machine.specs.Responses.{Response, Responds, GivesOnu, GivesAlloc, answer_with}
use Rattle.gp_machine.specs.Messages.{three_times}
use Rattle.gp_observer.specs.Observer.{Observed, observed_after_all}
use Rattle.gp_observer.specs.Watch.{Watch}
use Rattle.gp_observer.specs.Rules.{Settings}
use Rattle.gp_observer.specs.Heard.{Heard, HeardDown, HeardUp, HeardGrant, watch_after, watch_after_all, terminal_breaks}
use Rattle.gp_observer.specs.Heard as heard
use Rattle.gp_observer.proofs.Answering.{Unmoved, unmoved_both}
use Rattle.gp_observer.proofs.Causing.{IsRangingWindow, grant_of}
use Rattle.gp_observer.proofs.Watching.{Watching}

-- ---- lists of what is heard

pub after_parts : (w : Watch) (xs ys : List Heard) → watch_after_all w (xs ++ ys) ≡ watch_after_all (watch_after_all w xs) ys
after_parts w [] ys = refl
after_parts w (x ∷ xs) ys = after_parts (watch_after w x) xs ys

breaks_parts : (settings : Settings) (w : Watch) (xs ys : List Heard) → terminal_breaks settings w (xs ++ ys) ≡ terminal_breaks settings w xs ++ terminal_breaks settings (watch_after_all w xs) ys
breaks_parts settings w [] ys = refl
breaks_parts settings w (x ∷ xs) ys =
    ap (λ rules. cond (heard.is_terminals x) (heard.breaks settings w x) [] ++ rules) (breaks_parts settings (watch_after w x) xs ys)
    ∙ sym (append_assoc (cond (heard.is_terminals x) (heard.breaks settings w x) []) (terminal_breaks settings (watch_after w x) xs) (terminal_breaks settings (watch_after_all (watch_after w x) xs) ys))

-- what is true once this is heard: nothing was broken, and the port is watched on
pub record Goes (settings : Settings) (first : Bool) (w : Watch) (q : PortState) (said : List Heard) : Type 0 where
  pub breaks_none : terminal_breaks settings w said ≡ []
  pub then : Observed
  pub rest : List Down
  pub watching : Watching settings first q (watch_after_all w said) then rest

pub goes_both : (settings : Settings) (first : Bool) (w : Watch) (q : PortState) (xs ys : List Heard) → terminal_breaks settings w xs ≡ [] → Goes settings first (watch_after_all w xs) q ys → Goes settings first w q (xs ++ ys)
goes_both settings first w q xs ys none later =
    record {
      breaks_none = breaks_parts settings w xs ys ∙ ap (λ rules. rules ++ terminal_breaks settings (watch_after_all w xs) ys) none ∙ later.breaks_none;
      then = later.then;
      rest = later.rest;
      watching = subst (λ (x : Watch). Watching settings first q x later.then later.rest) (sym (after_parts w xs ys)) later.watching;
    }

-- ---- what a response gives

pub sends : (sent : Option Down) (d : Response) (k : ℕ) → (answer_with sent d k).sent ≡ sent
sends sent (Responds reply grant alarm changes) k = refl
sends sent (GivesOnu s) k = refl
sends sent (GivesAlloc s row) k = refl

pub grants : (sent : Option Down) (d : Response) (k : ℕ) → (answer_with sent d k).grant ≡ grant_of d
grants sent (Responds reply grant alarm changes) k = refl
grants sent (GivesOnu s) k = refl
grants sent (GivesAlloc s row) k = refl

pub changes_owe : (p : PortState) (changes : List Change) → (state_after p changes).owed ≡ p.owed ++ three_times (owed_by changes)
changes_owe p [] = sym (append-nil p.owed)
changes_owe p (Owes m ∷ changes) = changes_owe (state_owing p m) changes ∙ append_assoc p.owed (all_copies m) (three_times (owed_by changes))
changes_owe p (change ∷ changes) = changes_owe (state_after_change p change) changes

-- the window that is open at the end: its unit is not moved
pub stays_unmoved : (p q : PortState) (s : Observed) (ms ns : List Down) → (p.owed ≡ [] → ms ≡ []) → ((n : ℕ) → IsRangingWindow p.window n → Unmoved s n ms)
    → ((n : ℕ) → IsRangingWindow q.window n → ((p.owed ≡ []) × (ns ≡ [])) ⊎ (IsRangingWindow p.window n × Unmoved (observed_after_all s ms) n ns)) → (n : ℕ) → IsRangingWindow q.window n → Unmoved s n (ms ++ ns)
stays_unmoved p q s ms ns none_to_tell window leaves n asks = by_case (leaves n asks)
  where
    by_case : ((p.owed ≡ []) × (ns ≡ [])) ⊎ (IsRangingWindow p.window n × Unmoved (observed_after_all s ms) n ns) → Unmoved s n (ms ++ ns)
    by_case (inl quiet) = subst (λ (xs : List Down). Unmoved s n (xs ++ ns)) (sym (none_to_tell quiet.0)) (subst (λ (xs : List Down). Unmoved s n xs) (sym quiet.1) tt)
    by_case (inr was) = unmoved_both s n ms ns (window n was.0) was.1
