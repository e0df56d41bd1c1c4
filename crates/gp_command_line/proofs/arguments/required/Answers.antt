use Rattle.gp_command_line.specs.CommandLine.{required_rule}
use Rattle.gp_command_line.proofs.RuleSteps.{with_required}
use Rattle.gp_command_line.proofs.arguments.required.Goals as goal

pub returns : goal.returns
unfolding required_rule
returns c =
    with_required c.positional.ensures _ c.required.ensures
