use Rattle.std.proofs.Common.{rules}
use Rattle.gp_ploam.proofs.message.Up.octet1.Goals as goal

pub returns-in-Other : goal.returns-in-Other
returns-in-Other c = search rules
