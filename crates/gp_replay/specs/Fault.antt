-- Which fault of a replay the fault of each part is (this profile's own rule).
use Rattle.gp_stream.specs.declared.reading.SourceFault.{SourceFault}
use Rattle.gp_stream.specs.declared.reading.SourceFault.TheVariants as sources
use Rattle.gp_script.specs.declared.fault.ScriptError.{ScriptError}
use Rattle.gp_script.specs.declared.fault.ScriptError.TheVariants as errors
use Rattle.gp_replay.specs.declared.fault.PlayFault.{PlayFault}
use Rattle.gp_replay.specs.declared.fault.PlayFault.TheVariants as plays
use Rattle.gp_replay.specs.declared.fault.RunFault.{RunFault}
use Rattle.gp_replay.specs.declared.fault.RunFault.TheVariants as runs

-- a fault of reading
abbrev pub fault_of_source : SourceFault → RunFault
fault_of_source sources.Read = runs.Read
fault_of_source sources.TooLong = runs.TooLong
fault_of_source sources.OutOfMemory = runs.OutOfMemory

-- a fault of the script
abbrev pub fault_of_script : ScriptError → RunFault
fault_of_script errors.OutOfMemory = runs.OutOfMemory
fault_of_script (errors.Fault fault) = runs.Script fault

-- a fault of playing and writing
abbrev pub fault_of_play : PlayFault → RunFault
fault_of_play plays.OutOfMemory = runs.OutOfMemory
fault_of_play plays.Write = runs.Write
