-- The same of an observer of what is sent, who hears each message three times (this profile's own rule).
use Rattle.std.specs.Prelude.{◌≡◌, true, List, [], ◌∷◌, ◌++◌, All}
use Rattle.std.specs.FinSet.{FinSet}
use Rattle.gp_ploam.specs.declared.message.Down.{Down}
use Rattle.gp_ploam.specs.declared.message.Down.TheVariants.{AssignOnu, DisableSerial, EnableSerial}
use Rattle.gp_ploam.specs.Serials.{serial_cmp, is_among}
use Rattle.gp_machine.specs.declared.config.PortConfig.{PortConfig}
use Rattle.gp_machine.specs.declared.entry.Entry.{Entry}
use Rattle.gp_machine.specs.State.{PortState, Rows, opening_of}
use Rattle.gp_machine.specs.Run.{Run}
use Rattle.gp_machine.specs.Messages.{RunOwing, sent_in}
use Rattle.gp_observer.specs.Observer.{Observed, nothing_observed, observed_after_all}
use Rattle.gp_observer.specs.Knows.{IsKnown}

-- the first of each three, where the last three may not be complete
unfoldable pub each_once : List Down → List Down
each_once [] = []
each_once (first ∷ []) = first ∷ []
each_once (first ∷ second ∷ []) = first ∷ []
each_once (first ∷ second ∷ third ∷ later) = first ∷ each_once later

-- in every run from an opening what is sent, with the copies that are still owed behind it, tells the units
abbrev pub SentTellUnits : Type 0
SentTellUnits =
    (config : PortConfig) (last : PortState) (entries : List Entry)
    → Run (opening_of config) entries last
    → IsKnown last.rows last.disabled (observed_after_all nothing_observed (each_once (sent_in entries ++ last.owed)))

-- the units leave nothing open of what is known
abbrev pub UnitsTellAll : Type 0
UnitsTellAll =
    (rows : Rows) (disabled : FinSet serial_cmp) (seen other : Observed)
    → IsKnown rows disabled seen
    → IsKnown rows disabled other
    → seen ≡ other

-- a serial number that a message names is admitted
abbrev pub NamesAdmitted : PortConfig → Down → Type 0
NamesAdmitted config (AssignOnu onu serial) = is_among serial config.admitted ≡ true
NamesAdmitted config (DisableSerial serial) = is_among serial config.admitted ≡ true
NamesAdmitted config (EnableSerial serial) = is_among serial config.admitted ≡ true
NamesAdmitted config _ = Unit {0}

-- so it is with all messages that the steps of a run from an opening owe
abbrev pub MessagesNameAdmitted : Type 0
MessagesNameAdmitted =
    (config : PortConfig) (last : PortState) (entries : List Entry) (messages : List Down)
    → RunOwing (opening_of config) entries messages last
    → All (NamesAdmitted config) messages
