use Rattle.std.proofs.Common.{sym}
use Rattle.hear_rules.specs.Facts.{No}
use Rattle.hear_rules.specs.Known.{owner_after}
use Rattle.hear_state.specs.Owners.{lost_only}
use Rattle.hear_state.proofs.Tenures.{map_itself, none_lost}
use Rattle.hear_state.proofs.owners.Owners.lose.Goals as goal

pub returns-in-No : goal.returns-in-No
returns-in-No c = rw c.in-No.is (sym (map_itself (owner_after (lost_only c.args.onu No)) c.args.self.now (none_lost c.args.onu)))
