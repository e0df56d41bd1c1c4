-- The answers that what a frame, a burst or a command gives stands for, and that they are those of a response (this
-- profile's own rule).
-- Inside: no public contract cites this.
use Rattle.std.specs.Prelude.{◌≡◌, ℕ, Option, None}
use Rattle.gp_ploam.specs.declared.message.Down.{Down}
use Rattle.gp_port.specs.declared.answers.FrameAnswer.{FrameAnswer}
use Rattle.gp_port.specs.declared.answers.BurstAnswer.{BurstAnswer}
use Rattle.gp_port.specs.declared.answers.BurstReply.{BurstReply}
use Rattle.gp_port.specs.declared.answers.BurstReply.TheVariants as given
use Rattle.gp_machine.specs.declared.reply.Reply.{Reply}
use Rattle.gp_machine.specs.declared.reply.Reply.TheVariants as reply
use Rattle.gp_machine.specs.declared.answer.Answer.{Answer}
use Rattle.gp_machine.specs.State.{PortState}
use Rattle.gp_machine.specs.Changes.{StepResult, step_result_of}
use Rattle.gp_machine.specs.Responses.{Response, MayPick, step_result_with}
use Rattle.gp_port.specs.Numbers.{number_handed_out}

-- the answer to a frame that gives this
abbrev pub answer_to_frame : FrameAnswer → Answer
answer_to_frame gives = record { reply = reply.Ticked; sent = gives.sent; grant = gives.grant; alarm = gives.alarm }

-- what a frame comes to that gives this, with these licences left, in this state
abbrev pub frame_result_of : FrameAnswer × ℕ → PortState → StepResult
frame_result_of gives port = record { answer = answer_to_frame gives.0; purse = gives.1; state = port }

-- the reply that the one to a burst is
abbrev pub reply_to_burst : BurstReply → Reply
reply_to_burst (given.Refused refusal) = reply.Refused refusal
reply_to_burst (given.Found onu) = reply.Found onu
reply_to_burst (given.Again onu) = reply.Again onu
reply_to_burst (given.Repeat onu) = reply.Repeat onu
reply_to_burst (given.Restarted onu) = reply.Restarted onu
reply_to_burst given.DisabledSeen = reply.DisabledSeen
reply_to_burst (given.Ranged onu eqd) = reply.Ranged onu eqd
reply_to_burst (given.TooFar onu) = reply.TooFar onu
reply_to_burst (given.StillRanging onu) = reply.StillRanging onu
reply_to_burst (given.Alive onu) = reply.Alive onu
reply_to_burst (given.Acked alloc) = reply.Acked alloc
reply_to_burst (given.Gasp onu) = reply.Gasp onu

-- the answer to a burst that gives this
abbrev pub answer_to_burst : BurstAnswer → Answer
answer_to_burst gives = record { reply = reply_to_burst gives.reply; sent = None; grant = None; alarm = gives.alarm }

-- what a burst comes to that gives this, with these licences left, in this state
abbrev pub burst_result_of : BurstAnswer × ℕ → PortState → StepResult
burst_result_of gives port = record { answer = answer_to_burst gives.0; purse = gives.1; state = port }

-- the number that a burst hands out, or 0 where it hands out none
abbrev pub number_given : BurstAnswer → ℕ
number_given gives = number_handed_out (reply_to_burst gives.reply)

-- a frame that sends this comes to what the response says, which hands out no number
abbrev pub AnswersFrame : ℕ → PortState → Option Down → Response → FrameAnswer × ℕ → PortState → Type 0
AnswersFrame purse old sent response gives new =
    MayPick old response 0 × (frame_result_of gives new ≡ step_result_with purse old sent response 0)

-- a burst comes to what the response says: the number that it hands out was free
abbrev pub AnswersBurst : ℕ → PortState → Response → BurstAnswer × ℕ → PortState → Type 0
AnswersBurst purse old response gives new =
    MayPick old response (number_given gives.0)
    × (burst_result_of gives new ≡ step_result_with purse old None response (number_given gives.0))

-- the same of a command
abbrev pub AnswersCommand : ℕ → PortState → Response → Answer × ℕ → PortState → Type 0
AnswersCommand purse old response gives new =
    MayPick old response (number_handed_out gives.0.reply)
    × (step_result_of gives new ≡ step_result_with purse old None response (number_handed_out gives.0.reply))
