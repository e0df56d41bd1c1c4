use Rattle.std.proofs.Common.{codes}
use Rattle.gp_command_line.specs.CommandLine.{HasRule, files_rule, several_rule}
use Rattle.gp_command_line.proofs.RuleSteps.{with_required}
use Rattle.gp_command_line.proofs.arguments.files.Goals as goal

pub returns : goal.returns
unfolding files_rule
returns c =
    let named : HasRule (several_rule (codes "files")) c.several.result = c.several.ensures in
    with_required named _ c.required.ensures
