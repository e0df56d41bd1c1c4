use Rattle.gp_command_line.specs.CommandLine.{several_rule}
use Rattle.gp_command_line.proofs.RuleSteps.{with_action}
use Rattle.gp_command_line.proofs.arguments.several.Goals as goal

pub returns : goal.returns
unfolding several_rule
returns c =
    with_action c.positional.ensures _ c.action.ensures
