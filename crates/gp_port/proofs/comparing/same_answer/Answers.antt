use Rattle.std.proofs.Common.{ap}
use Rattle.gp_machine.specs.declared.answer.Answer.{Answer}
use Rattle.gp_port.proofs.comparing.same_answer.Goals as goal

pub returns : goal.returns
returns c = (
  λ yes.
      let effects = c.same_effects.ensures.0 yes in
      let reply = c.same_reply.ensures.0 c.if-not-same_reply.false in
      λ i. record { reply = reply i; sent = effects.0 i; grant = effects.1 i; alarm = effects.2 i },
  λ e. c.same_effects.ensures.1 (ap (λ (a : Answer). a.sent) e, ap (λ (a : Answer). a.grant) e, ap (λ (a : Answer). a.alarm) e),
)
