use Rattle.clap.specs.Words.{new_rule}
use Rattle.gp_command_line.specs.CommandLine.{HasRule, positional_rule}
use Rattle.gp_command_line.proofs.RuleSteps.{with_help, with_value_name}
use Rattle.gp_command_line.proofs.arguments.positional.Goals as goal

pub returns : goal.returns
unfolding positional_rule
returns c =
    let start : HasRule (new_rule c.args.name.now) c.new.result = record { is = c.new.ensures.rule; local = c.new.ensures.optional.1 } in
    with_help (with_value_name start _ c.value_name.ensures) _ c.help.ensures
