use Rattle.std.proofs.Common.{◌≡◌, refl, None, rules}
use Rattle.gp_chassis.specs.declared.config.ChassisConfig.{ChassisConfig}
use Rattle.gp_c.specs.Outs.{done_of}
use Rattle.gp_c.specs.Calls.{asked_for}
use Rattle.gp_c.proofs.Opening.{opened, closed_where}
use Rattle.gp_c.proofs.calls.open.Goals as goal

pub returns : goal.returns
returns c =
    let config : ChassisConfig = record { licences = c.args.settings.now.licences; journal_limit = c.args.settings.now.journal_limit; ports = c.in_ok-ports.ports } in
    let none : c.args.handle.now.value ≡ None = closed_where _ _ c.free.ensures.free (search rules) in
    rw c.replace.ensures.after (rw c.done.ensures (opened (asked_for c.args.settings.now c.args.ports.now c.args.serials.now) config
    c.args.handle.now.value c.open-next.result.0.value (done_of c.open-next.result.1) none c.in_ok-ports.ensures.ok refl refl c.open-next.ensures))
