use Rattle.std.proofs.Common.{rules}
use Rattle.gp_ploam.proofs.check.checked.Goals as goal

pub returns-then-crc_of_twelve-check-clause-ok : goal.returns-then-crc_of_twelve-check-clause-ok
returns-then-crc_of_twelve-check-clause-ok c = search rules

pub returns-then-crc_of_twelve-check-clause-crc : goal.returns-then-crc_of_twelve-check-clause-crc
returns-then-crc_of_twelve-check-clause-crc c = search rules

pub returns-clause-ok : goal.returns-clause-ok
returns-clause-ok c = search rules

pub returns-clause-crc : goal.returns-clause-crc
returns-clause-crc c = search rules
