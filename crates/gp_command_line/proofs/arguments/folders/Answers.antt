use Rattle.std.proofs.Common.{codes}
use Rattle.gp_command_line.specs.CommandLine.{HasRule, folders_rule, several_rule}
use Rattle.gp_command_line.proofs.RuleSteps.{with_required}
use Rattle.gp_command_line.proofs.arguments.folders.Goals as goal

pub returns : goal.returns
unfolding folders_rule
returns c =
    let named : HasRule (several_rule (codes "folders")) c.several.result = c.several.ensures in
    with_required named _ c.required.ensures
