use Rattle.std.proofs.Common.{◌≡◌, Some, rules}
use Rattle.clap.specs.declared.builder.value_parser.ValueParser.TheVariants.{Unsigned}
use Rattle.gp_command_line.specs.CommandLine.{number_rule}
use Rattle.gp_command_line.proofs.RuleSteps.{with_parser}
use Rattle.gp_command_line.proofs.arguments.number.Goals as goal

pub returns : goal.returns
unfolding number_rule
returns c =
    let given : c.value_parser-2.result.value_parser ≡ Some (Unsigned 0 18446744073709551615) = search rules in
    with_parser c.valued.ensures _ c.value_parser-2.ensures.others given
