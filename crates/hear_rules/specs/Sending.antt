-- No run of the machine cuts the copies of a message short (this profile's own rule).
use Rattle.std.specs.Prelude.{◌≡◌, ℕ, List, [], ◌∷◌, ◌++◌}
use Rattle.gp_ploam.specs.Mask.{mask_value}
use Rattle.gp_machine.specs.declared.config.PortConfig.{PortConfig}
use Rattle.gp_machine.specs.declared.entry.Entry.{Entry}
use Rattle.gp_machine.specs.State.{PortState, opening_of}
use Rattle.gp_machine.specs.Run.{Run}
use Rattle.gp_observer.specs.Heard.{Heard}
use Rattle.hear_rules.specs.declared.rule.Verdict.TheVariants.{Broken}
use Rattle.hear_rules.specs.Clock.{TimedSays}
use Rattle.hear_rules.specs.Copies.{Subject, Cut, Silent, Sendings, sendings_heard, copies}

-- none of what is heard, each in its frame, cuts copies short or comes too late for them
abbrev pub NoneCutShort : Sendings → List (ℕ × Heard) → Type 0
NoneCutShort sendings [] = Unit {0}
NoneCutShort sendings ((now, heard) ∷ others) =
    ((subject : Subject) → copies sendings now heard subject ≡ Broken → ⊥)
    × NoneCutShort (sendings_heard sendings now heard) others

-- no run from an opening does, whatever bursts came, and in whatever frame it begins
abbrev pub TerminalSendsCopies : Type 0
TerminalSendsCopies =
    (config : PortConfig) (last : PortState) (entries : List Entry) (now : ℕ) (timed : List (ℕ × Heard))
    → Run (opening_of config) entries last
    → TimedSays (mask_value config.mask) now entries timed
    → NoneCutShort (λ subject. Silent) timed

-- nor is one found by who hears what is said from any point on
abbrev pub TerminalSendsCopiesAnywhere : Type 0
TerminalSendsCopiesAnywhere =
    (config : PortConfig) (last : PortState) (entries : List Entry) (now : ℕ) (before later : List (ℕ × Heard))
    → Run (opening_of config) entries last
    → TimedSays (mask_value config.mask) now entries (before ++ later)
    → NoneCutShort (λ subject. Cut) later
