use Rattle.std.proofs.Common.{◌≡◌, ◌+◌, ◌≤◌, ◌∙◌, rules, arith}
use Rattle.gp_machine.specs.State.{rows_of}
use Rattle.gp_machine.specs.Changes.{step_result_of}
use Rattle.gp_port.proofs.Cores.{kept, moved, moved_wish, same_config, shared}
use Rattle.gp_port.proofs.port_core.PortCore.step_into.Goals as goal

pub overflow_cast-left : goal.overflow_cast-left
overflow_cast-left g c =
    let o = step_result_of (c.step_into-left.new.answer, c.step_into-left.result) c.step_into-left.new.self in
    let sums : c.step_into-left.result + rows_of c.step_into-left.new.self ≡ c.from.result + rows_of c.self.inside.machine =
    c.step_keeps_licences.ensures c.from.result c.self.inside.machine c.args.event o c.self.invariant.sound c.step_into-left.ensures.step in
    let units : c.self.inside.machine.config.max_units ≤ 254 = search (rules, c.self.invariant.limits) in
    let few = c.self.invariant.sound.units.few in
    omega (arith, c.from.ensures, c.count.ensures.most)

pub share_out-requires : goal.share_out-requires
share_out-requires g c =
    let o = step_result_of (c.step_into-left.new.answer, c.step_into-left.result) c.step_into-left.new.self in
    let sums : c.step_into-left.result + rows_of c.step_into-left.new.self ≡ c.from.result + rows_of c.self.inside.machine =
    c.step_keeps_licences.ensures c.from.result c.self.inside.machine c.args.event o c.self.invariant.sound c.step_into-left.ensures.step in
    let licences = c.self.invariant.licences in
    omega (arith, c.from.ensures, c.count.ensures.count)

pub invariant_of-self : goal.invariant_of-self
invariant_of-self g c =
    let o = step_result_of (c.step_into-left.new.answer, c.step_into-left.result) c.step_into-left.new.self in
    let step = c.step_into-left.ensures.step in
    kept c.from.result c.self.inside.held c.step_into-left.result c.share_out.new.held c.self.inside.machine c.step_into-left.new.self c.self.invariant.limits c.self.invariant.licences
    (c.sound_step.ensures c.from.result c.self.inside.machine c.args.event o c.self.invariant.sound step)
    (same_config c.from.result c.self.inside.machine c.args.event o step)
    (c.step_keeps_licences.ensures c.from.result c.self.inside.machine c.args.event o c.self.invariant.sound step)
    (shared c.share_out.new.held c.share_out.result c.args.purse c.self.inside.held c.step_into-left.result c.from.result c.share_out.ensures.held c.share_out.ensures.left (c.from.ensures ∙ c.count.ensures.count))

pub returns : goal.returns
returns g c =
    let made = step_result_of (c.step_into-left.new.answer, c.share_out.result) c.step_into-left.new.self in
    let here = c.step_into-left.ensures in
    let counted = c.from.ensures ∙ c.count.ensures.count in
    let sums : c.step_into-left.result + rows_of c.step_into-left.new.self ≡ c.from.result + rows_of c.self.inside.machine =
    c.step_keeps_licences.ensures c.from.result c.self.inside.machine c.args.event (step_result_of (c.step_into-left.new.answer, c.step_into-left.result) c.step_into-left.new.self) c.self.invariant.sound here.step in
    let step = moved c.from.result c.args.purse c.step_into-left.result c.share_out.result c.self.inside.machine c.step_into-left.new.self c.args.event c.step_into-left.new.answer counted c.share_out.ensures.left here.step in
    rw (← c.self.view_is)
    (record {
      step = step;
      sound = c.sound_step.ensures c.args.purse c.self.inside.machine c.args.event made c.self.invariant.sound step;
      licences = omega (arith, c.share_out.ensures.left, c.from.ensures, c.count.ensures.count);
      sends = (step.0, step.1, c.step_sends_in_order.ensures c.args.purse c.self.inside.machine c.args.event made step.0 step.1);
      refused = λ refusal is. c.refusals_change_nothing.ensures c.args.purse c.self.inside.machine c.args.event made refusal c.self.invariant.sound step is;
      proper = here.proper;
      grants =
          moved_wish c.from.result c.args.purse c.step_into-left.result c.share_out.result c.self.inside.machine c.step_into-left.new.self c.args.event c.args.wished c.step_into-left.new.answer counted
          c.share_out.ensures.left here.wished;
    })
