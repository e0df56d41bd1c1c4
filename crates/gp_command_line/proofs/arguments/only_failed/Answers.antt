use Rattle.std.proofs.Common.{codes}
use Rattle.gp_command_line.specs.CommandLine.{HasRule, flag_rule, quiet_rule}
use Rattle.gp_command_line.proofs.RuleSteps.{with_short}
use Rattle.gp_command_line.proofs.arguments.only_failed.Goals as goal

pub returns : goal.returns
unfolding quiet_rule
returns c =
    let named : HasRule (flag_rule (codes "quiet")) c.flag.result = c.flag.ensures in
    with_short named _ c.short.ensures
