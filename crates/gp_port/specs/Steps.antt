-- What holds of each step of a port, whichever call makes it (this profile's own rule).
use Rattle.std.specs.Prelude.{◌≡◌, ◌+◌, ◌++◌, ℕ, List, Option}
use Rattle.std.specs.Option.{ForSome, option_to_list}
use Rattle.gp_ploam.specs.declared.message.Down.{Down}
use Rattle.gp_ploam.specs.Down.{IsProperDown}
use Rattle.gp_machine.specs.declared.event.Event.{Event}
use Rattle.gp_machine.specs.declared.refusal.Refusal.{Refusal}
use Rattle.gp_machine.specs.declared.reply.Reply.TheVariants.{Refused}
use Rattle.gp_machine.specs.State.{PortState, rows_of}
use Rattle.gp_machine.specs.Sound.{IsSound}
use Rattle.gp_machine.specs.Changes.{StepResult}
use Rattle.gp_machine.specs.Responses.{bare_answer}
use Rattle.gp_machine.specs.Step.{Step, StepOwing}
use Rattle.gp_machine.specs.OneStep.{state_refused}
use Rattle.gp_machine.specs.Messages.{three_times}
use Rattle.gp_port.specs.Numbers.{GrantsWish}

-- what is sent with a step, and then what is owed, is what was owed before and three copies of each message that the
-- step owes
abbrev pub SendsInOrder : ℕ → PortState → Event → StepResult → Type 0
SendsInOrder purse port event made =
    (messages : List Down)
    × StepOwing purse port event made messages
    × (option_to_list made.answer.sent ++ made.state.owed ≡ port.owed ++ three_times messages)

-- a step that is refused leaves the licences and the port as they were
abbrev pub RefusesUnchanged : ℕ → PortState → Event → StepResult → Type 0
RefusesUnchanged purse port event made =
    (refusal : Refusal)
    → made.answer.reply ≡ Refused refusal
    → made ≡ record { answer = bare_answer (Refused refusal); purse = purse; state = state_refused port event }

-- with these licences at hand the port makes a step with this event, and comes to this
pub record MakesStep (purse : ℕ) (port : PortState) (event : Event) (wished : Option ℕ) (made : StepResult)
    : Type 0 where
  -- the machine may make it
  pub step : Step purse port event made
  pub sound : IsSound made.state
  -- each licence is with an active unit, or given back
  pub licences : made.purse + rows_of made.state ≡ purse + rows_of port
  pub sends : SendsInOrder purse port event made
  pub refused : RefusesUnchanged purse port event made
  -- what is sent can be encoded
  pub proper : ForSome made.answer.sent IsProperDown
  -- where the wished number is free and one is handed out, it is that
  pub grants : GrantsWish purse port event wished made
