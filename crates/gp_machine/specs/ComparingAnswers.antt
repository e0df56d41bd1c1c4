-- What `==` tells of rows and replies (this profile's own rule).
use Rattle.std.specs.Prelude.{◌≡◌, ◌↔◌, true}
use Rattle.gp_unit.specs.declared.row.Row.{Row}
use Rattle.gp_unit.specs.contracts.row.RowPartialEq.TheImpl as row
use Rattle.gp_machine.specs.declared.reply.Reply.{Reply}
use Rattle.gp_machine.specs.contracts.reply.ReplyPartialEq.TheImpl as reply

-- two rows are the same by `==` exactly where they are equal
abbrev pub ComparesRows : Type 0
ComparesRows = (first second : Row) → ((row.ghosts).eq first second ≡ true) ↔ (first ≡ second)

-- two replies are the same by `==` exactly where they are equal
abbrev pub ComparesReplies : Type 0
ComparesReplies = (first second : Reply) → ((reply.ghosts).eq first second ≡ true) ↔ (first ≡ second)
