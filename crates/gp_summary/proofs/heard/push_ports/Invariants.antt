use Rattle.std.proofs.Common.{◌≡◌, ◌++◌, ℕ, List}
use Rattle.gp_summary.specs.Heard.{HeardText}
use Rattle.gp_summary.proofs.heard.push_ports.Given as goal

abbrev pub invariant-ports : goal.invariant-ports
invariant-ports l = (text : List ℕ) × HeardText l.form l.port l.listener.ports l.tallies text × (l.out.items ≡ l.fn.out.items ++ text)
