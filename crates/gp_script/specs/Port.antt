-- The tables under `port` (this profile's own rule).
use Rattle.std.specs.Prelude.{ℕ, ℤ, List, [], ◌∷◌, ◌++◌, ◌||◌, Bool, Option, Some, None, Result, Ok, Err, not, length, replicate}
use Rattle.std.specs.List.{flat_map, list_any, position_or_len}
use Rattle.toml.specs.Data.{Data, string, table, Items, no_items, item, Members}
use Rattle.gp_ploam.specs.OnuIds.{onu_ids}
use Rattle.gp_ploam.specs.declared.check.Mask.{Mask}
use Rattle.gp_ploam.specs.declared.message.Serial.{Serial}
use Rattle.gp_ploam.specs.Serials.{is_among}
use Rattle.gp_serial.specs.Admitted.{max_on_a_port}
use Rattle.gp_pools.specs.Limits.{first_alloc_id, last_alloc_id, max_quarantine}
use Rattle.gp_machine.specs.Config.{max_cycles, max_search_period}
use Rattle.gp_machine.specs.declared.config.PortConfig.{PortConfig}
use Rattle.gp_script.specs.declared.place.Counted.TheVariants as counted
use Rattle.gp_script.specs.declared.place.Key.{Key}
use Rattle.gp_script.specs.declared.place.Key.TheVariants as key
use Rattle.gp_script.specs.declared.place.TablePlace.TheVariants as places
use Rattle.gp_script.specs.declared.place.Wanted.{Wanted}
use Rattle.gp_script.specs.declared.place.Wanted.TheVariants as wanted
use Rattle.gp_script.specs.Fault.{◌>>=◌, needs}
use Rattle.gp_script.specs.Mistake.{TableMistakeView, MistakeView, at_item, at_key, in_table, no_table}
use Rattle.gp_script.specs.Keys.{has_only, number_at, text_at, list_at, are_texts}
use Rattle.gp_script.specs.Values.{in_range_or, count_in, serial_of, octets_of}

-- the keys of a port table
abbrev pub port_keys : List Key
port_keys =
    key.Teqd ∷ key.MaxUnits ∷ key.AllocLast ∷ key.Cycles ∷ key.SearchPeriod ∷ key.Quarantine ∷ key.Overhead ∷ key.Admit
    ∷ []

-- what stands at the keys of a port table, each of its type and in no range yet
pub record PortShape : Type 0 where
  -- the equalized round-trip delay, in bit times
  pub teqd : Option ℤ
  -- how many units may be active at once
  pub max_units : Option ℤ
  -- the greatest Alloc-ID
  pub alloc_last : Option ℤ
  -- the search windows of one search
  pub cycles : Option ℤ
  -- after how many frames in standby a search begins by itself
  pub search_period : Option ℤ
  -- for how many frames a freed ONU-ID is not given to another unit
  pub quarantine : Option ℤ
  -- the digits of the ten octets of Upstream_Overhead
  pub overhead : Option (List ℕ)
  -- the serial numbers that may be activated
  pub admit : Items

-- a port table by its shape: the keys that it may have, each value of its type, and nothing but texts in `admit`
unfoldable pub port_shape : Members → Result PortShape TableMistakeView
port_shape members = do
  _ ← has_only port_keys members
  teqd ← number_at key.Teqd members
  max_units ← number_at key.MaxUnits members
  alloc_last ← number_at key.AllocLast members
  cycles ← number_at key.Cycles members
  search_period ← number_at key.SearchPeriod members
  quarantine ← number_at key.Quarantine members
  overhead ← text_at key.Overhead members
  admit ← list_at key.Admit members
  _ ← are_texts key.Admit admit
  Ok (record {
    teqd = teqd;
    max_units = max_units;
    alloc_last = alloc_last;
    cycles = cycles;
    search_period = search_period;
    quarantine = quarantine;
    overhead = overhead;
    admit = admit;
  })

-- the serial numbers that are admitted on these ports, port by port
abbrev pub all_admitted : List PortConfig → List Serial
all_admitted ports = flat_map (λ (port : PortConfig). port.admitted) ports

-- the serial number is admitted on one of these ports
abbrev pub is_admitted : Serial → List PortConfig → Bool
is_admitted serial ports = list_any (λ port. is_among serial port.admitted) ports

-- the first of these ports on which the serial number is admitted, or the port after them
abbrev pub port_with : Serial → List PortConfig → ℕ
port_with serial ports = position_or_len (λ port. is_among serial port.admitted) ports

-- the serial number of a text of `admit`
abbrev pub serial_in : Data → Result Serial Wanted
serial_in (string text) = serial_of text
serial_in _ = Err wanted.Text

-- the same, new on this port and the ports before it
unfoldable pub new_serial : List PortConfig → List Serial → Data → Result Serial Wanted
new_serial ports before value = do
  serial ← serial_in value
  _ ← needs (wanted.NewSerial (port_with serial ports)) (not (is_among serial before || is_admitted serial ports))
  Ok serial

-- the serial numbers of the texts of `admit`, behind those before them
unfoldable pub serials_from : List PortConfig → List Serial → Items → Result (List Serial) TableMistakeView
serials_from ports before no_items = Ok before
serials_from ports before (item first rest) = do
  serial ← at_item key.Admit (length before) (new_serial ports before first)
  serials_from ports (before ++ serial ∷ []) rest

-- the ten octets of Upstream_Overhead, or zeros
abbrev pub overhead_of : Option (List ℕ) → Result (List ℕ) Wanted
overhead_of None = Ok (replicate 10 0)
overhead_of (Some text) = octets_of 10 text

-- what a port table says, but for the serial numbers that may be activated, of which there are few enough
pub record PortNumbers : Type 0 where
  pub teqd : ℕ
  pub overhead : List ℕ
  pub max_units : ℕ
  pub alloc_last : ℕ
  pub cycles : ℕ
  pub search_period : ℕ
  pub quarantine : ℕ
  -- the texts of the serial numbers
  pub admit : Items

-- each value of a port table in its range
unfoldable pub port_numbers : Members → Result PortNumbers TableMistakeView
port_numbers members = do
  shape ← port_shape members
  teqd ← at_key key.Teqd (in_range_or 311040 0 4294967295 shape.teqd)
  max_units ← at_key key.MaxUnits (in_range_or onu_ids 1 onu_ids shape.max_units)
  alloc_last ← at_key key.AllocLast (in_range_or last_alloc_id first_alloc_id last_alloc_id shape.alloc_last)
  cycles ← at_key key.Cycles (in_range_or 3 1 max_cycles shape.cycles)
  search_period ← at_key key.SearchPeriod (in_range_or 0 0 max_search_period shape.search_period)
  quarantine ← at_key key.Quarantine (in_range_or 800 0 max_quarantine shape.quarantine)
  overhead ← at_key key.Overhead (overhead_of shape.overhead)
  _ ← at_key key.Admit (count_in counted.Serials 0 max_on_a_port shape.admit)
  Ok (record {
    teqd = teqd;
    overhead = overhead;
    max_units = max_units;
    alloc_last = alloc_last;
    cycles = cycles;
    search_period = search_period;
    quarantine = quarantine;
    admit = shape.admit;
  })

-- the configuration of a port
abbrev pub config_with : Mask → PortNumbers → List Serial → PortConfig
config_with mask numbers admitted = record {
  mask = mask;
  teqd = numbers.teqd;
  overhead = numbers.overhead;
  max_units = numbers.max_units;
  alloc_last = numbers.alloc_last;
  cycles = numbers.cycles;
  search_period = numbers.search_period;
  quarantine = numbers.quarantine;
  admitted = admitted;
}

-- the configuration of a port table, after the ports before it
unfoldable pub port_of : Mask → List PortConfig → Members → Result PortConfig MistakeView
port_of mask before members = do
  numbers ← in_table (places.Port (length before)) (port_numbers members)
  admitted ← in_table (places.Port (length before)) (serials_from before [] numbers.admit)
  Ok (config_with mask numbers admitted)

-- the configurations of the port tables, behind those before them
unfoldable pub ports_from : Mask → List PortConfig → Items → Result (List PortConfig) MistakeView
ports_from mask before no_items = Ok before
ports_from mask before (item (table members) rest) = do
  port ← port_of mask before members
  ports_from mask (before ++ port ∷ []) rest
ports_from mask before (item _ rest) = Err (no_table key.Port (length before))
