use Rattle.std.proofs.Common.{◌≡◌, ◌++◌, List, drop, option_map}
use Rattle.gp_machine.specs.declared.config.PortConfig.{PortConfig}
use Rattle.gp_c.specs.Settings as spec
use Rattle.gp_c.proofs.settings.ports_of.Given as goal

abbrev pub invariant-loop-port : goal.invariant-loop-port
invariant-loop-port l =
    spec.ports_of l.ports l.serials ≡ option_map (λ (others : List PortConfig). l.made.items ++ others) (spec.ports_of (drop l.port-index l.ports) l.left)
