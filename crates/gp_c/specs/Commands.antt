-- The numbers of commands (this library's own rule; include/wagpisud.h has their names).
use Rattle.std.specs.Prelude.{ℕ, List, [], ◌∷◌, slice_get, Option}
use Rattle.gp_ploam.specs.declared.message.Serial.{Serial}
use Rattle.gp_machine.specs.declared.event.Command.{Command}
use Rattle.gp_machine.specs.declared.event.Command.TheVariants.{Search, Alloc, Dealloc, Deactivate, Disable, Enable, EnableAll, Popup, PopupAll, Show}

-- the commands in the order of their numbers, from 0
abbrev pub commands : Serial → ℕ → List Command
commands serial alloc =
    Search
    ∷ Alloc serial
    ∷ Dealloc serial alloc
    ∷ Deactivate serial
    ∷ Disable serial
    ∷ Enable serial
    ∷ EnableAll
    ∷ Popup serial
    ∷ PopupAll
    ∷ Show serial
    ∷ []

-- the command of a number, if there is one
abbrev pub command_of : ℕ → Serial → ℕ → Option Command
command_of kind serial alloc = slice_get (commands serial alloc) kind
