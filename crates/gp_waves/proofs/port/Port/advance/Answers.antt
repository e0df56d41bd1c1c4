use Rattle.std.proofs.Common.{ℕ, ◌∙◌, ap}
use Rattle.gp_waves.specs.Port.{PortHeld, PortVars, both, ended}
use Rattle.gp_waves.proofs.port.Port.advance.Goals as goal

pub returns : goal.returns
returns c = (
  c.show_lanes.new.held,
  c.in_ok-show_lanes.ensures.units,
  c.in_ok-end_pulses.ensures.ends
      ∙ ap (λ (n : ℕ). ended c.args.scope.now n (both c.show_lanes.new.self c.show_lanes.new.held)) (ap (λ (v : PortVars). v.time) c.in_ok-show_lanes.ensures.same)
      ∙ ap (λ (v : PortVars). let p : PortHeld = record { vars = v; held = c.show_lanes.new.held } in ended c.args.scope.now c.args.time p) c.in_ok-show_lanes.ensures.same,
)
