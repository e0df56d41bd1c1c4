-- What holds of all entries that play a script (this profile's own rule).
use Rattle.std.specs.Prelude.{◌≡◌, List}
use Rattle.gp_machine.specs.declared.entry.Receipt.{Receipt}
use Rattle.gp_script.specs.Script.{ScriptView}
use Rattle.gp_replay.specs.Runs.{PortsRun}
use Rattle.gp_replay.specs.ScriptPlay.{Plays, ends_of, licences_after}

-- each port's entries are a run of the activation machine, which ends in the state in which the play leaves the port
abbrev pub EachPortRuns : Type 0
EachPortRuns =
    (script : ScriptView) (receipts : List Receipt) (play : Plays script receipts)
    → PortsRun script.ports receipts (ends_of script receipts play)

-- the licences that are free at the end and those of the units are as many as the script says
abbrev pub LicencesAreKept : Type 0
LicencesAreKept =
    (script : ScriptView) (receipts : List Receipt) (play : Plays script receipts)
    → licences_after script receipts play ≡ script.licences
