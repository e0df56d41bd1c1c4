-- No run of the machine breaks a rule of the terminal (this profile's own rule).
use Rattle.std.specs.Prelude.{◌≡◌, List, [], ◌++◌}
use Rattle.gp_ploam.specs.Mask.{mask_value}
use Rattle.gp_machine.specs.declared.config.PortConfig.{PortConfig}
use Rattle.gp_machine.specs.declared.entry.Entry.{Entry}
use Rattle.gp_machine.specs.State.{PortState, opening_of}
use Rattle.gp_machine.specs.Run.{Run, IsReached}
use Rattle.gp_observer.specs.Heard.{Heard}
use Rattle.gp_observer.specs.Fibre.{RunSays}
use Rattle.hear_rules.specs.Known.{known_whole, known_midway}
use Rattle.hear_rules.specs.Rules.{Settings}
use Rattle.hear_rules.specs.Findings.{findings}

-- in no run from an opening a rule of the terminal is found broken, whatever bursts came
abbrev pub TerminalBreaksNone : Type 0
TerminalBreaksNone =
    (config : PortConfig) (last : PortState) (entries : List Entry) (said : List Heard) (settings : Settings)
    → Run (opening_of config) entries last
    → RunSays (mask_value config.mask) entries said
    → settings.teqd ≡ config.teqd
    → findings settings known_whole said ≡ []

-- nor is one by who begins in the middle of a run, wherever that is
abbrev pub TerminalBreaksNoneMidway : Type 0
TerminalBreaksNoneMidway =
    (config : PortConfig) (begun last : PortState) (entries : List Entry) (said : List Heard) (settings : Settings)
    → IsReached config begun
    → Run begun entries last
    → RunSays (mask_value config.mask) entries said
    → settings.teqd ≡ config.teqd
    → findings settings known_midway said ≡ []

-- nor by who hears what is said from any point on
abbrev pub TerminalBreaksNoneAnywhere : Type 0
TerminalBreaksNoneAnywhere =
    (config : PortConfig) (last : PortState) (entries : List Entry) (before later : List Heard) (settings : Settings)
    → Run (opening_of config) entries last
    → RunSays (mask_value config.mask) entries (before ++ later)
    → settings.teqd ≡ config.teqd
    → findings settings known_midway later ≡ []
