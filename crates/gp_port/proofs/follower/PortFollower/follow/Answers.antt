use Rattle.std.proofs.Common.{◌≡◌, ℕ, true, sym, ap, subst, ◌∙◌}
use Rattle.std.proofs.lemmas.Bool.{false≢true}
use Rattle.gp_machine.specs.Changes.{StepResult, step_result_of}
use Rattle.gp_machine.specs.Config.{is_within_limits}
use Rattle.gp_machine.specs.Step.{Step}
use Rattle.gp_port.specs.Numbers.{GrantsWish}
use Rattle.gp_port.proofs.Cores.{same_config}
use Rattle.gp_port.proofs.Following.{followed, is_made}
use Rattle.gp_port.proofs.follower.PortFollower.follow.Goals as goal

pub invariant_of-self : goal.invariant_of-self
invariant_of-self c =
    let o = step_result_of (c.step_into-left.new.answer, c.step_into-left.result) c.step_into-left.new.self in
    let step = c.step_into-left.ensures.step in
    let purse = c.from.result in
    let entry = c.args.entry.now in
    record {
      limits = subst (λ config. is_within_limits config ≡ true) (sym (same_config purse c.self.inside.machine entry.event o step)) c.self.invariant.limits;
      sound = c.sound_step.ensures purse c.self.inside.machine entry.event o c.self.invariant.sound step;
    }

pub returns-clause-made : goal.returns-clause-made
returns-clause-made c =
    let o = step_result_of (c.step_into-left.new.answer, c.step_into-left.result) c.step_into-left.new.self in
    let step = subst (λ (n : ℕ). Step n c.self.inside.machine c.args.entry.now.event o) c.from.ensures c.step_into-left.ensures.step in
    rw (← c.self.view_is)
    (λ yes. let same = c.same_outcome.ensures.0 yes in is_made c.self.inside.machine c.step_into-left.new.self c.args.entry.now c.step_into-left.new.answer c.step_into-left.result step same.0 same.1)

pub returns-clause-refused : goal.returns-clause-refused
returns-clause-refused c =
    let o = step_result_of (c.step_into-left.new.answer, c.step_into-left.result) c.step_into-left.new.self in
    let wished = subst (λ (n : ℕ). GrantsWish n c.self.inside.machine c.args.entry.now.event c.number_handed_out-wished.result o) c.from.ensures c.step_into-left.ensures.wished in
    rw (← c.self.view_is)
    (λ after denied step.
    let same = followed c.self.inside.machine c.step_into-left.new.self after c.args.entry.now c.number_handed_out-wished.result c.step_into-left.new.answer c.step_into-left.result c.number_handed_out-wished.ensures wished step in
    false≢true (sym denied ∙ c.same_outcome.ensures.1 (ap (λ (o : StepResult). o.answer) same, ap (λ (o : StepResult). o.purse) same)))

pub returns-clause-alone : goal.returns-clause-alone
returns-clause-alone c =
    let o = step_result_of (c.step_into-left.new.answer, c.step_into-left.result) c.step_into-left.new.self in
    let wished = subst (λ (n : ℕ). GrantsWish n c.self.inside.machine c.args.entry.now.event c.number_handed_out-wished.result o) c.from.ensures c.step_into-left.ensures.wished in
    rw (← c.self.view_is)
    (λ after step.
    sym (ap (λ (o : StepResult). o.state)
    (followed c.self.inside.machine c.step_into-left.new.self after c.args.entry.now c.number_handed_out-wished.result c.step_into-left.new.answer c.step_into-left.result c.number_handed_out-wished.ensures wished step)))
