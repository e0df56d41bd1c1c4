-- What the configuration that C gives says (this library's own rule).
use Rattle.std.specs.Prelude.{ℕ, nat_le, if◌then◌else◌, List, [], ◌∷◌, length, map, take, drop, Option, None, Some, option_map, nat_eq}
use Rattle.gp_ploam.specs.declared.message.Serial.{Serial}
use Rattle.gp_ploam.specs.declared.check.Mask.{Mask}
use Rattle.gp_ploam.specs.declared.check.Mask.TheVariants.{Plain, Coset}
use Rattle.gp_machine.specs.declared.config.PortConfig.{PortConfig}
use Rattle.gp_c.specs.declared.settings.SerialNumber.{SerialNumber}
use Rattle.gp_c.specs.declared.settings.PortSettings.{PortSettings}

-- a serial number
abbrev pub serial_of : SerialNumber → Serial
serial_of number = record { 0 = number.octets }

-- what check octets are XORed with
abbrev pub mask_of : ℕ → Mask
mask_of is_masked = if nat_eq is_masked 0 then Plain else Coset

-- a port that admits these serial numbers
abbrev pub port_config : PortSettings → List SerialNumber → PortConfig
port_config port serials =
    record {
      mask = mask_of port.is_masked;
      teqd = port.teqd;
      overhead = port.overhead;
      max_units = port.max_units;
      alloc_last = port.alloc_last;
      cycles = port.cycles;
      search_period = port.search_period;
      quarantine = port.quarantine;
      admitted = map serial_of serials;
    }

-- a port's configuration before those of the other ports, if they have one
abbrev pub and_before : PortConfig → Option (List PortConfig) → Option (List PortConfig)
and_before port ports = option_map (λ (others : List PortConfig). port ∷ others) ports

-- no port is left: the serial numbers are used up
abbrev pub all_used : List SerialNumber → Option (List PortConfig)
all_used [] = Some []
all_used (serial ∷ serials) = None

-- the ports, each of which admits the next so many of the serial numbers; None where these are too few or too many
abbrev pub ports_of : List PortSettings → List SerialNumber → Option (List PortConfig)
ports_of [] serials = all_used serials
ports_of (port ∷ ports) serials =
    if nat_le port.admitted (length serials)
    then and_before (port_config port (take port.admitted serials)) (ports_of ports (drop port.admitted serials))
    else None
