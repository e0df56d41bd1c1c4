use Rattle.gp_command_line.specs.CommandLine.{repeated_rule}
use Rattle.gp_command_line.proofs.RuleSteps.{with_action}
use Rattle.gp_command_line.proofs.arguments.repeated.Goals as goal

pub returns : goal.returns
unfolding repeated_rule
returns c =
    with_action c.valued.ensures _ c.action.ensures
