-- Questions about the common state of a port (G.984.3, clause 10: standby, acquisition, and measurement of delays).
use Rattle.std.specs.Prelude.{Bool, true, false}
use Rattle.gp_common.specs.declared.common.Common.{Common}
use Rattle.gp_common.specs.declared.common.Common.TheVariants.{Standby, Acquisition, Measuring}

-- the port stands by
abbrev pub is_standby : Common → Bool
is_standby Standby = true
is_standby (Acquisition left) = false
is_standby Measuring = false

-- an acquisition goes on
abbrev pub is_acquiring : Common → Bool
is_acquiring Standby = false
is_acquiring (Acquisition left) = true
is_acquiring Measuring = false
