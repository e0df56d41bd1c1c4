-- How many codes of a trace can't be read under the mask, and whether one can (this profile's own rule).
use Rattle.std.specs.Prelude.{ℕ, zero, suc, ◌+◌, ◌-◌, ◌^◌, nat_lt, ◌==◌, ◌||◌, not, false, List, min}
use Rattle.gp_census.specs.declared.sighting.PortCounts.{PortCounts}
use Rattle.gp_audit.specs.Port.{port_of}
use Rattle.gp_audit.specs.Port.{PortState}
use Rattle.gp_summed.specs.declared.codes.HeardCodes.{HeardCodes}

-- so many more, as far as 64 bits go
abbrev pub more : ℕ → ℕ → ℕ
more count by = min (count + by) (2 ^ 64 - 1)

-- no code came
abbrev pub no_codes : HeardCodes
no_codes = record { garbled = 0; is_read = false }

-- and those of one more port: a message came down, or a code came up that isn't garbled
abbrev pub with_port : PortCounts → HeardCodes → HeardCodes
with_port counts codes =
    record {
      garbled = more (more codes.garbled counts.garbled_down) counts.garbled_up;
      is_read = codes.is_read || not (counts.messages == 0) || nat_lt counts.garbled_up counts.up;
    }

-- those of the first so many ports
abbrev pub codes_of : List PortState → ℕ → HeardCodes
codes_of ports zero = no_codes
codes_of ports (suc port) = with_port (port_of ports port).census.port (codes_of ports port)
