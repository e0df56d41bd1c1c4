use Rattle.std.proofs.Common.{◌≡◌, Some, rules}
use Rattle.clap.specs.declared.builder.value_parser.ValueParser.TheVariants.{Names}
use Rattle.gp_command_line.specs.CommandLine.{choice_rule}
use Rattle.gp_command_line.proofs.RuleSteps.{with_parser}
use Rattle.gp_command_line.proofs.arguments.choice.Goals as goal

pub returns : goal.returns
unfolding choice_rule
returns c =
    let given : c.value_parser.result.value_parser ≡ Some (Names c.args.names) = search rules in
    with_parser c.valued.ensures _ c.value_parser.ensures.others given
