-- The words of commands, as scripts, lines and traces have them (this profile's own rule).
use Rattle.std.specs.Prelude.{ℕ, List, codes}
use Rattle.gp_machine.specs.declared.event.Command.{Command}
use Rattle.gp_machine.specs.declared.event.Command.TheVariants as commands

-- the word of a command
abbrev pub command_word : Command → List ℕ
command_word commands.Search = codes "search"
command_word (commands.Alloc serial) = codes "alloc"
command_word (commands.Dealloc serial alloc) = codes "dealloc"
command_word (commands.Deactivate serial) = codes "deactivate"
command_word (commands.Disable serial) = codes "disable"
command_word (commands.Enable serial) = codes "enable"
command_word commands.EnableAll = codes "enable-all"
command_word (commands.Popup serial) = codes "popup"
command_word commands.PopupAll = codes "popup-all"
command_word (commands.Show serial) = codes "show"
