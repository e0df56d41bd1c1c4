-- All that a dump can declare (this profile's own rule).
use Rattle.std.specs.Prelude.{ℕ, List, Option, Some, replicate}
use Rattle.gp_machine.specs.Config.{max_ports}

-- all ports, with all lanes that there can be
abbrev pub all_ports : List (Option ℕ)
all_ports = replicate max_ports (Some 256)
