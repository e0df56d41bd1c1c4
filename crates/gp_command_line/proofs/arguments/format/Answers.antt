use Rattle.std.proofs.Common.{codes}
use Rattle.gp_command_line.specs.CommandLine.{HasRule, choice_rule, format_rule}
use Rattle.gp_command_line.proofs.RuleSteps.{with_default}
use Rattle.gp_command_line.proofs.arguments.format.Goals as goal

pub returns : goal.returns
unfolding format_rule
returns c =
    let named : HasRule (choice_rule (codes "format") c.args.formats) c.choice.result = c.choice.ensures in
    with_default named _ c.default_value.ensures
