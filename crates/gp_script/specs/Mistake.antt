-- Where a script is wrong and what is wanted there, and the fault that a mistake is (this profile's own rule).
use Rattle.std.specs.Prelude.{ℕ, List, Result, Ok, Err, codes}
use Rattle.gp_script.specs.declared.fault.ScriptFault.{ScriptFault}
use Rattle.gp_script.specs.declared.fault.ScriptFault.TheVariants as faults
use Rattle.gp_script.specs.declared.place.Key.{Key}
use Rattle.gp_script.specs.declared.place.Key.TheVariants as keys
use Rattle.gp_script.specs.declared.place.TablePlace.{TablePlace}
use Rattle.gp_script.specs.declared.place.TablePlace.TheVariants as places
use Rattle.gp_script.specs.declared.place.Spot.{Spot}
use Rattle.gp_script.specs.declared.place.Spot.TheVariants as spots
use Rattle.gp_script.specs.declared.place.Wanted.{Wanted}
use Rattle.gp_script.specs.declared.place.Wanted.TheVariants as wanted

-- how a key is written
abbrev pub key_name : Key → List ℕ
key_name keys.Licences = codes "licences"
key_name keys.Mask = codes "mask"
key_name keys.JournalLimit = codes "journal_limit"
key_name keys.Port = codes "port"
key_name keys.Unit = codes "unit"
key_name keys.Lose = codes "lose"
key_name keys.Event = codes "event"
key_name keys.Teqd = codes "teqd"
key_name keys.MaxUnits = codes "max_units"
key_name keys.AllocLast = codes "alloc_last"
key_name keys.Cycles = codes "cycles"
key_name keys.SearchPeriod = codes "search_period"
key_name keys.Quarantine = codes "quarantine"
key_name keys.Overhead = codes "overhead"
key_name keys.Admit = codes "admit"
key_name keys.Serial = codes "serial"
key_name keys.Delay = codes "delay"
key_name keys.Random = codes "random"
key_name keys.Copy = codes "copy"
key_name keys.Burst = codes "burst"
key_name keys.Frames = codes "frames"
key_name keys.At = codes "at"
key_name keys.Say = codes "say"
key_name keys.Command = codes "command"
key_name keys.Light = codes "light"
key_name keys.Onu = codes "onu"
key_name keys.Id = codes "id"
key_name keys.Alloc = codes "alloc"

-- what is wrong in a table
pub data TableMistakeView : Type 0 where
  -- it has a key that it may not have
  unknown_key : List ℕ → TableMistakeView
  -- something is wanted at a spot of it
  unmet : Spot → Wanted → TableMistakeView

-- what is wrong in a script
pub data MistakeView : Type 0 where
  -- the bytes are no text
  no_text : MistakeView
  -- the text is no TOML
  no_toml : MistakeView
  -- one of its tables is wrong
  inside : TablePlace → TableMistakeView → MistakeView

-- the key is put onto what is wanted of its value
abbrev pub at_key : {A : Type 0} → Key → Result A Wanted → Result A TableMistakeView
at_key key (Ok value) = Ok value
at_key key (Err want) = Err (unmet (spots.Key key) want)

-- and so are the key and the place of an item of its list
abbrev pub at_item : {A : Type 0} → Key → ℕ → Result A Wanted → Result A TableMistakeView
at_item key place (Ok value) = Ok value
at_item key place (Err want) = Err (unmet (spots.Item key place) want)

-- the table is put onto what is wrong in it
abbrev pub in_table : {A : Type 0} → TablePlace → Result A TableMistakeView → Result A MistakeView
in_table place (Ok value) = Ok value
in_table place (Err mistake) = Err (inside place mistake)

-- a key that has to be there is missing
abbrev pub missing : Key → TableMistakeView
missing key = unmet (spots.Key key) wanted.Value

-- an item of a list of the top is no table
abbrev pub no_table : Key → ℕ → MistakeView
no_table key place = inside places.Top (unmet (spots.Item key place) wanted.Table)

-- the fault that something wanted is
abbrev pub fault_of_wanted : Wanted → ScriptFault
fault_of_wanted (wanted.Range low high) = faults.Range
fault_of_wanted (wanted.Count counted low high) = faults.Range
fault_of_wanted wanted.MaskNumber = faults.Range
fault_of_wanted wanted.SerialText = faults.Serial
fault_of_wanted (wanted.Digits count) = faults.Hex
fault_of_wanted (wanted.NewSerial port) = faults.Duplicate
fault_of_wanted _ = faults.Shape

-- the fault that a mistake in a table is
abbrev pub fault_in_table : TableMistakeView → ScriptFault
fault_in_table (unknown_key name) = faults.Shape
fault_in_table (unmet spot want) = fault_of_wanted want

-- the fault that a mistake is
abbrev pub fault_of : MistakeView → ScriptFault
fault_of no_text = faults.Syntax
fault_of no_toml = faults.Syntax
fault_of (inside place mistake) = fault_in_table mistake

-- what is said where the place of a mistake is not asked for
abbrev pub without_place : {A : Type 0} → Result A MistakeView → Result A ScriptFault
without_place (Ok value) = Ok value
without_place (Err mistake) = Err (fault_of mistake)
