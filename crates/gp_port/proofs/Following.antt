-- A step that follows an entry.
use Rattle.std.proofs.Common.{◌≡◌, ℕ, Option, refl, sym, subst}
use Rattle.gp_machine.specs.declared.answer.Answer.{Answer}
use Rattle.gp_machine.specs.declared.entry.Entry.{Entry}
use Rattle.gp_machine.specs.declared.reply.Reply.{Reply}
use Rattle.gp_machine.specs.declared.reply.Reply.TheVariants.{Found, Allocated}
use Rattle.gp_machine.specs.State.{PortState}
use Rattle.gp_machine.specs.Changes.{StepResult, step_result_of}
use Rattle.gp_machine.specs.Step.{Step}
use Rattle.gp_machine.specs.Run.{IsStep, entry_outcome}
use Rattle.gp_port.specs.Numbers.{GrantsWish, HandsOut, number_named}

-- a reply hands out the number that it names
hands_out : (r : Reply) → HandsOut (number_named r) r
hands_out (Found onu) = refl
hands_out (Allocated alloc) = refl
hands_out r = tt

-- the step that was made is the one that an entry tells of, if there is such a step
pub followed : (p q after : PortState) (entry : Entry) (wished : Option ℕ) (answer : Answer) (left : ℕ) → wished ≡ number_named entry.answer.reply
    → GrantsWish entry.purse_in p entry.event wished (step_result_of (answer, left) q) → IsStep p entry after → step_result_of (answer, left) q ≡ entry_outcome entry after
followed p q after entry wished answer left named grants step =
    grants (entry_outcome entry after) step (subst (λ (w : Option ℕ). HandsOut w entry.answer.reply) (sym named) (hands_out entry.answer.reply))

pub is_made : (p q : PortState) (entry : Entry) (answer : Answer) (left : ℕ) → Step entry.purse_in p entry.event (step_result_of (answer, left) q) → answer ≡ entry.answer → left ≡ entry.purse_out → IsStep p entry q
is_made p q entry answer left step same spent =
    let all : step_result_of (answer, left) q ≡ entry_outcome entry q = λ i. record { answer = same i; purse = spent i; state = q } in
    subst (λ (o : StepResult). Step entry.purse_in p entry.event o) all step
