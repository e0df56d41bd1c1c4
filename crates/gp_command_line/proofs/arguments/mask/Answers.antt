use Rattle.std.proofs.Common.{codes}
use Rattle.gp_command_line.specs.CommandLine.{HasRule, choice_rule, mask_rule}
use Rattle.gp_command_line.proofs.RuleSteps.{with_default}
use Rattle.gp_command_line.proofs.arguments.mask.Goals as goal

pub returns : goal.returns
unfolding mask_rule
returns c =
    let named : HasRule (choice_rule (codes "mask") c.args.masks) c.choice.result = c.choice.ensures in
    with_default named _ c.default_value.ensures
