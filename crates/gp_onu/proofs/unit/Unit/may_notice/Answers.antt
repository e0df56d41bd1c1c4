use Rattle.std.proofs.Common.{rules}
use Rattle.gp_onu.proofs.unit.Unit.may_notice.Goals as goal

pub returns-in-EnableAll-clause-value : goal.returns-in-EnableAll-clause-value
returns-in-EnableAll-clause-value c = search rules

pub returns-in-EnableAll-clause-passed : goal.returns-in-EnableAll-clause-passed
returns-in-EnableAll-clause-passed c = search rules
