use Rattle.std.proofs.Common.{rules, ◌≡◌, sym, ap, subst, ◌∙◌}
use Rattle.gp_chassis.specs.Limits.{IsWithin}
use Rattle.gp_chassis.specs.Core.{Stands, core_opened, world_of}
use Rattle.gp_chassis.proofs.Cores.{opened_stands, opened_world}
use Rattle.gp_chassis.proofs.chassis_core.ChassisCore.begin.Goals as goal

pub invariant_of-result : goal.invariant_of-result
invariant_of-result g c =
    let within : IsWithin c.args.config.now = search rules in
    let made : record { desks = c.in-Ok.opened.0.items; free = c.in-Ok.opened.1.free; hands = c.in-Ok-empty_hands.hands.items; licences = c.in-Ok.opened.1.total } ≡ core_opened c.args.config.now.ports.items c.args.config.now.licences c.args.config.now.journal_limit = search rules in
    subst Stands (sym made) (opened_stands _ _ _ within.limits)

pub returns-clause-world : goal.returns-clause-world
returns-clause-world g c =
    let made : record { desks = c.in-Ok.opened.0.items; free = c.in-Ok.opened.1.free; hands = c.in-Ok-empty_hands.hands.items; licences = c.in-Ok.opened.1.total } ≡ core_opened c.args.config.now.ports.items c.args.config.now.licences c.args.config.now.journal_limit = search rules in
    ap world_of made ∙ opened_world c.args.config.now.ports.items c.args.config.now.licences c.args.config.now.journal_limit
