use Rattle.gp_command_line.specs.CommandLine.{flag_rule}
use Rattle.gp_command_line.proofs.RuleSteps.{with_action, with_help, with_long}
use Rattle.gp_command_line.proofs.arguments.flag.Goals as goal

pub returns : goal.returns
unfolding flag_rule
returns c =
    with_help (with_action (with_long (record { is = c.new.ensures.rule; local = c.new.ensures.optional.1 }) _ c.long.ensures) _ c.action.ensures) _ c.help.ensures
