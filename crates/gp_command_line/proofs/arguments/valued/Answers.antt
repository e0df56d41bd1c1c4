use Rattle.gp_command_line.specs.CommandLine.{valued_rule}
use Rattle.gp_command_line.proofs.RuleSteps.{with_help, with_long, with_value_name}
use Rattle.gp_command_line.proofs.arguments.valued.Goals as goal

pub returns : goal.returns
unfolding valued_rule
returns c =
    with_help (with_value_name (with_long (record { is = c.new.ensures.rule; local = c.new.ensures.optional.1 }) _ c.long.ensures) _ c.value_name.ensures) _ c.help.ensures
