use Rattle.std.proofs.Common.{◌≡◌, ◌++◌, ℕ, Some, ap, sym, ◌∙◌, rules}
use Rattle.std.specs.Prelude.{slice_get}
use Rattle.std.specs.Option.{option_copied}
use Rattle.gp_summary.specs.Text.{port_lines}
use Rattle.gp_summary.proofs.PortLines.{ports_next}
use Rattle.gp_summary.proofs.ports.push_ports.Goals as goal

pub ports-preserved : goal.ports-preserved
ports-preserved g c =
    let state = c.in-Some.core.now in
    let number : c.in-Ok.number ≡ c.ports.port = search rules in
    let there : slice_get c.args.player.now.world.ports c.in-Ok.number ≡ Some state = sym c.port.ensures ∙ ap option_copied c.in-Some.is in
    ports_next c.args.form c.ports.port c.args.player.now.world.ports c.args.tallies.now state _ _ c.args.out.now.items c.ports.out.items c.push_port.new.out.items
    c.ports-test.true (ap (λ (n : ℕ). slice_get c.args.player.now.world.ports n) (sym number) ∙ there) c.index-tallies-port.is c.ports.invariant
    (c.in_ok-push_port.ensures ∙ ap (λ (n : ℕ). c.ports.out.items ++ port_lines c.args.form n state c.index-tallies-port.result) number)
