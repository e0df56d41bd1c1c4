-- What the admission list has of the port tables that were read (this profile's own rule).
-- Inside: no public contract cites this.
use Rattle.std.specs.Prelude.{◌≡◌, ℕ, ◌<◌, ◌||◌, List, Option, Some, None, is_some, length}
use Rattle.std.specs.FinMap.{get}
use Rattle.gp_ploam.specs.declared.message.Serial.{Serial}
use Rattle.gp_ploam.specs.Serials.{is_among}
use Rattle.gp_serial.specs.Admitted.{Admissions, count_on, max_on_a_port}
use Rattle.gp_machine.specs.declared.config.PortConfig.{PortConfig}
use Rattle.gp_serial.specs.declared.fault.AdmitFault.{AdmitFault}
use Rattle.gp_serial.specs.declared.fault.AdmitFault.TheVariants as admits
use Rattle.gp_script.specs.declared.place.Counted.TheVariants as counted
use Rattle.gp_script.specs.declared.place.Key.TheVariants as key
use Rattle.gp_script.specs.declared.place.Spot.TheVariants as spots
use Rattle.gp_script.specs.declared.place.TablePlace.TheVariants as places
use Rattle.gp_script.specs.declared.place.Wanted.{Wanted}
use Rattle.gp_script.specs.declared.place.Wanted.TheVariants as wanted
use Rattle.gp_script.specs.declared.walk.TableFault.TheVariants as faults
use Rattle.gp_script.specs.declared.walk.WalkError.{WalkError}
use Rattle.gp_script.specs.declared.walk.WalkError.TheVariants as walks
use Rattle.gp_script.specs.Port.{is_admitted, port_with}

-- what is wanted of a serial number that isn't admitted on the port after these, unless memory ran out. More than a
-- port may have are refused before the first is read
abbrev pub wanted_by_admit : List PortConfig → Serial → AdmitFault → Option Wanted
wanted_by_admit before serial admits.Duplicate = Some (wanted.NewSerial (port_with serial before))
wanted_by_admit before serial admits.Full = Some (wanted.Count counted.Serials 0 max_on_a_port)
wanted_by_admit before serial admits.OutOfMemory = None

-- the walk ends at an item of `admit` on a port, where something is wanted or memory ran out
abbrev pub item_error : ℕ → ℕ → Option Wanted → WalkError
item_error port item None = walks.OutOfMemory
item_error port item (Some want) = walks.Inside (places.Port port) (faults.Unmet (spots.Item key.Admit item) want)

-- the list admits what these ports admit, and these serial numbers on the port after them
pub record Admits (admissions : Admissions) (ports : List PortConfig) (serials : List Serial) : Type 0 where
  -- it has them and no others
  pub here : (serial : Serial) → is_some (get admissions serial) ≡ (is_among serial serials || is_admitted serial ports)
  -- so many are admitted on the port after these
  pub count : count_on (length ports) admissions ≡ length serials
  -- none is admitted on a later port
  pub later : (port : ℕ) → length ports < port → count_on port admissions ≡ 0
