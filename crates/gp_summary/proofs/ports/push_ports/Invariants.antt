use Rattle.std.proofs.Common.{◌≡◌, ◌++◌, ℕ, List}
use Rattle.gp_summary.specs.Text.{PortsText}
use Rattle.gp_summary.proofs.ports.push_ports.Given as goal

abbrev pub invariant-ports : goal.invariant-ports
invariant-ports g l =
    (text : List ℕ) × PortsText l.form l.port l.player.world.ports l.tallies text × (l.out.items ≡ l.fn.out.items ++ text)
