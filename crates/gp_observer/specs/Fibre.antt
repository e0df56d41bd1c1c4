-- What a run of the machine says on the fibre; and that the terminal breaks no rule in it (this profile's own rule).
use Rattle.std.specs.Prelude.{◌≡◌, ◌↔◌, ℕ, All, true, false, List, [], ◌∷◌, ◌++◌, Option, None, Some}
use Rattle.gp_ploam.specs.declared.message.Down.{Down}
use Rattle.gp_ploam.specs.declared.message.Up.{Up}
use Rattle.gp_ploam.specs.Down.{ReadsDown, code_of_down}
use Rattle.gp_ploam.specs.Mask.{mask_value}
use Rattle.gp_ploam.specs.Row.{HasRightCheck}
use Rattle.gp_ranging.specs.declared.grant.Grant.{Grant}
use Rattle.gp_machine.specs.declared.answer.Answer.{Answer}
use Rattle.gp_machine.specs.declared.config.PortConfig.{PortConfig}
use Rattle.gp_machine.specs.declared.entry.Entry.{Entry}
use Rattle.gp_machine.specs.declared.event.Event.{Event}
use Rattle.gp_machine.specs.declared.event.Event.TheVariants.{Frame, Burst, Command}
use Rattle.gp_machine.specs.State.{PortState, opening_of}
use Rattle.gp_machine.specs.Run.{Run, IsReached}
use Rattle.gp_machine.specs.Messages.{sent_in}
use Rattle.gp_machine.specs.Step.{Hears}
use Rattle.gp_laws.specs.Messages.{IsTypedConfig}
use Rattle.gp_observer.specs.Watch.{watch_begun}
use Rattle.gp_observer.specs.Rules.{Settings}
use Rattle.gp_observer.specs.Heard.{Heard, HeardDown, HeardUp, HeardGrant, terminal_breaks}

-- a message that may be sent, and a grant that may be given
abbrev pub down_said : Option Down → List Heard
down_said None = []
down_said (Some message) = HeardDown (Some message) ∷ []

abbrev pub grant_said : Option Grant → List Heard
grant_said None = []
grant_said (Some grant) = HeardGrant grant ∷ []

-- a frame says what is sent in it, and then what is granted; a burst the message that its octets are read as, with its
-- round-trip delay; a command says nothing
abbrev pub EventSays : ℕ → Event → Answer → List Heard → Type 0
EventSays mask Frame answer said = said ≡ down_said answer.sent ++ grant_said answer.grant
EventSays mask (Burst round_trip bytes) answer said =
    (heard : Option Up) × Hears mask bytes heard × (said ≡ HeardUp heard (Some round_trip) ∷ [])
EventSays mask (Command command) answer said = said ≡ []

-- the entries say this under the mask, one after another
abbrev pub RunSays : ℕ → List Entry → List Heard → Type 0
RunSays mask [] said = said ≡ []
RunSays mask (entry ∷ entries) said =
    (first : List Heard) × (rest : List Heard)
    × EventSays mask entry.event entry.answer first × RunSays mask entries rest
    × (said ≡ first ++ rest)

-- each run says something, under its port's mask; it may be nothing
abbrev pub EveryRunIsHeard : Type 0
EveryRunIsHeard =
    (port last : PortState) (entries : List Entry)
    → Run port entries last
    → (said : List Heard) × RunSays (mask_value port.config.mask) entries said

-- in every run from an opening the terminal breaks no rule, whatever bursts came, and whatever is said of units
abbrev pub TerminalBreaksNoRule : Type 0
TerminalBreaksNoRule =
    (config : PortConfig) (last : PortState) (entries : List Entry) (said : List Heard) (settings : Settings)
    → Run (opening_of config) entries last
    → RunSays (mask_value config.mask) entries said
    → settings.teqd ≡ config.teqd
    → terminal_breaks settings (watch_begun false) said ≡ []

-- nor does one find a rule broken who begins in the middle of a run, wherever that is
abbrev pub TerminalBreaksNoRuleMidway : Type 0
TerminalBreaksNoRuleMidway =
    (config : PortConfig) (begun last : PortState) (entries : List Entry) (said : List Heard) (settings : Settings)
    → IsReached config begun
    → Run begun entries last
    → RunSays (mask_value config.mask) entries said
    → settings.teqd ≡ config.teqd
    → terminal_breaks settings (watch_begun true) said ≡ []

-- the message down that thirteen octets are read as, or None where their check octet is wrong
abbrev pub HearsDown : ℕ → List ℕ → Option Down → Type 0
HearsDown mask bytes (Some message) = ReadsDown bytes mask message
HearsDown mask bytes None = HasRightCheck bytes mask → ⊥

-- the code of a message is heard as the message, and in no other way
abbrev pub IsHeardRight : ℕ → Down → Type 0
IsHeardRight mask message =
    (heard : Option Down) → HearsDown mask (code_of_down message mask) heard ↔ (heard ≡ Some message)

-- under the port's mask the code of each message that is sent is heard as this message
abbrev pub SentCodesAreHeard : Type 0
SentCodesAreHeard =
    (config : PortConfig) (last : PortState) (entries : List Entry)
    → IsTypedConfig config
    → Run (opening_of config) entries last
    → All (IsHeardRight (mask_value config.mask)) (sent_in entries)
