-- What a step leaves of a port core, in the words of its clauses.
use Rattle.std.proofs.Common.{◌≡◌, ℕ, Option, ◌+◌, true, List, [], ◌∷◌, refl, sym, ap, subst, ◌∙◌, arith}
use Rattle.gp_machine.specs.declared.event.Event.{Event}
use Rattle.gp_machine.specs.declared.event.Event.TheVariants as event
use Rattle.gp_machine.specs.Config.{is_within_limits}
use Rattle.gp_machine.specs.State.{PortState, rows_of}
use Rattle.gp_machine.specs.Sound.{IsSound}
use Rattle.gp_machine.specs.declared.answer.Answer.{Answer}
use Rattle.gp_machine.specs.Changes.{Change, MarksSeen, StepResult, state_after, state_after_change, step_result_of}
use Rattle.gp_machine.specs.Responses.{changes_with}
use Rattle.gp_machine.specs.Step.{Step, state_at}
use Rattle.gp_port.specs.Numbers.{GrantsWish}
use Rattle.gp_port.specs.Parts.{IsKept}

-- ---- the configuration stays

change_config : (p : PortState) (change : Change) → (state_after_change p change).config ≡ p.config
change_config p MarksSeen = refl
change_config p change = refl

changes_config : (p : PortState) (changes : List Change) → (state_after p changes).config ≡ p.config
changes_config p [] = refl
changes_config p (change ∷ changes) = changes_config (state_after_change p change) changes ∙ change_config p change

start_config : (p : PortState) (e : Event) → (state_at p e).config ≡ p.config
start_config p event.Frame = refl
start_config p (event.Burst at bytes) = refl
start_config p (event.Command c) = refl

pub same_config : (u : ℕ) (p : PortState) (e : Event) (o : StepResult) → Step u p e o → o.state.config ≡ p.config
same_config u p e o step = let s = step.1 in ap (λ (x : StepResult). x.state.config) s.is ∙ changes_config (state_at p e) (changes_with s.response s.picked) ∙ start_config p e

-- ---- the licences

-- a port core after a step: with the licences that the machine leaves, it holds one for each unit
pub kept : (u held left rest : ℕ) (p q : PortState) → is_within_limits p.config ≡ true → held ≡ rows_of p → IsSound q → q.config ≡ p.config → left + rows_of q ≡ u + rows_of p → rest + left ≡ u + held → IsKept q rest
kept u held left rest p q limits licences sound same sums shared =
    record {
      limits = subst (λ config. is_within_limits config ≡ true) (sym same) limits;
      sound = sound;
      licences = omega arith;
    }

pub shared : (now rest purse held left count : ℕ) → now + rest ≡ purse + held → rest ≡ left → count ≡ purse → now + left ≡ count + held
shared now rest purse held left count sums same counted = omega arith

-- the step as the one who handed the licences in and gets the rest back sees it
pub moved : (count purse left rest : ℕ) (p q : PortState) (e : Event) (a : Answer) → count ≡ purse → rest ≡ left → Step count p e (step_result_of (a, left) q) → Step purse p e (step_result_of (a, rest) q)
moved count purse left rest p q e a counted same step =
    subst (λ (n : ℕ). Step n p e (step_result_of (a, rest) q)) counted (subst (λ (n : ℕ). Step count p e (step_result_of (a, n) q)) (sym same) step)

-- and so is the wish
pub moved_wish : (count purse left rest : ℕ) (p q : PortState) (e : Event) (wished : Option ℕ) (a : Answer) → count ≡ purse → rest ≡ left
    → GrantsWish count p e wished (step_result_of (a, left) q) → GrantsWish purse p e wished (step_result_of (a, rest) q)
moved_wish count purse left rest p q e wished a counted same grants =
    subst (λ (n : ℕ). GrantsWish n p e wished (step_result_of (a, rest) q)) counted (subst (λ (n : ℕ). GrantsWish count p e wished (step_result_of (a, n) q)) (sym same) grants)
