use Rattle.std.proofs.Common.{rules}
use Rattle.gp_onu.proofs.unit.Unit.hear.Goals as goal

pub returns-in-Ok-clause-unread : goal.returns-in-Ok-clause-unread
returns-in-Ok-clause-unread c = search rules

pub returns-in_default-clause-read : goal.returns-in_default-clause-read
returns-in_default-clause-read c = search rules
