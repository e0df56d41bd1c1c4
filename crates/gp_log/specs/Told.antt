-- What the line of a trace of a machine's entry says on the fibre (this profile's own rule).
use Rattle.std.specs.Prelude.{◌≡◌, ℕ, true, false, Option, None, Some, ⊤}
use Rattle.std.specs.Option.{ForSome}
use Rattle.gp_ploam.specs.declared.message.Down.{Down}
use Rattle.gp_ploam.specs.declared.check.Mask.{Mask}
use Rattle.gp_ploam.specs.Mask.{mask_value}
use Rattle.gp_ploam.specs.Down.{code_of_down}
use Rattle.gp_ranging.specs.declared.grant.Grant.{Grant}
use Rattle.gp_machine.specs.declared.answer.Answer.{Answer}
use Rattle.gp_machine.specs.declared.event.Event.{Event}
use Rattle.gp_machine.specs.declared.event.Event.TheVariants as events
use Rattle.gp_machine.specs.declared.reply.Reply.TheVariants.{Ticked}
use Rattle.gp_lines.specs.Told.{AreOctets}
use Rattle.gp_log.specs.declared.line.LogLine.{LogLine}
use Rattle.gp_log.specs.declared.line.LogLine.TheVariants as line
use Rattle.gp_log.specs.declared.said.Said.{Said}
use Rattle.gp_log.specs.declared.said.Said.TheVariants as said
use Rattle.gp_log.specs.Text.{IsOctetGrant}

-- the code of the message that was sent, and the grant
abbrev pub sent_said : Mask → Option Down → Option Said
sent_said mask None = None
sent_said mask (Some message) = Some (said.Down (code_of_down message (mask_value mask)))

abbrev pub granted_said : Option Grant → Option Said
granted_said None = None
granted_said (Some grant) = Some (said.Grant grant)

-- a frame says what was sent and what was granted, a burst its code and its delay, a command nothing
abbrev pub entry_says : Mask → ℕ → Event → Answer → LogLine
entry_says mask port events.Frame answer = line.Trace port true (sent_said mask answer.sent) (granted_said answer.grant)
entry_says mask port (events.Burst at octets) answer = line.Trace port false (Some (said.Up octets (Some at))) None
entry_says mask port (events.Command command) answer = line.Trace port false None None

-- what a frame is answered with: its fields are what their types hold
pub record AnswersFrame (mask : Mask) (answer : Answer) : Type 0 where
  pub ticked : answer.reply ≡ Ticked
  pub sent : ForSome answer.sent (λ message. AreOctets 13 (code_of_down message (mask_value mask)))
  pub granted : ForSome answer.grant IsOctetGrant

-- of other events the answer doesn't matter
abbrev pub Answers : Mask → Event → Answer → Type 0
Answers mask events.Frame answer = AnswersFrame mask answer
Answers mask (events.Burst at octets) answer = ⊤
Answers mask (events.Command command) answer = ⊤
