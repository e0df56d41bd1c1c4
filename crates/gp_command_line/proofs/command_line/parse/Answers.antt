use Rattle.std.proofs.Common.{◌≡◌, List, true, refl, sym, ap, ◌∙◌, Result, Ok, Err, IfOk, rules}
use Rattle.clap.proofs.OnLiterals.{clap_on_literals}
use Rattle.clap.specs.Words.{App, FailsBy, HasMatchesOf, Text, fault_of, is_simple, is_simple_and_free, subcommand_of}
use Rattle.clap.specs.declared.error.Error.{Error}
use Rattle.clap.specs.declared.parser.matches.ArgMatches.{ArgMatches}
use Rattle.gp_command_line.specs.CommandLine.{AreChoices, Choices, IsParseOf, choice_rule, command, files_rule, flag_rule, folders_rule, format_rule, mask_rule, number_rule, oltctl, oltctl_command, positional_rule, quiet_rule, repeated_rule, required_rule, several_rule, valued_rule}
use Rattle.gp_command_line.proofs.Commands.{failed_by}
use Rattle.gp_command_line.proofs.command_line.parse.Goals as goal

-- the command line uses no setting of clap's that its definition leaves out
is_plain : (choices : Choices) → is_simple (oltctl_command choices) ≡ true
unfolding clap_on_literals choice_rule command files_rule flag_rule folders_rule format_rule mask_rule number_rule oltctl oltctl_command positional_rule quiet_rule repeated_rule required_rule several_rule valued_rule
is_plain choices = refl

is_plain_and_free : (choices : Choices) → is_simple_and_free (oltctl_command choices) ≡ true
unfolding clap_on_literals choice_rule command files_rule flag_rule folders_rule format_rule mask_rule number_rule oltctl oltctl_command positional_rule quiet_rule repeated_rule required_rule several_rule valued_rule
is_plain_and_free choices = refl

parsed_by : (choices : Choices) → AreChoices choices → (app : App) → app ≡ oltctl_command choices → (words : List Text) (r : Result ArgMatches Error)
    → IfOk r (HasMatchesOf app words) → (is_simple_and_free app ≡ true → FailsBy (fault_of app words) r) → IfOk r (IsParseOf words)
parsed_by choices are app same words (Ok m) matches fails = record {
  choices = choices;
  are = are;
  faultless = ap (λ (a : App). fault_of a words) (sym same) ∙ fails (ap is_simple_and_free same ∙ is_plain_and_free choices);
  found = (matches (ap is_simple same ∙ is_plain choices)).1 ∙ ap (λ (a : App). subcommand_of a words) same;
}
parsed_by choices are app same words (Err e) matches fails = tt

pub returns-clause-parsed : goal.returns-clause-parsed
returns-clause-parsed c =
    let made = c.in_ok-command.ensures in
    let choices : Choices = record { formats = c.as_slice.result; masks = c.as_slice-2.result; sides = c.as_slice-3.result } in
    let are : AreChoices choices = record { formats = search rules; masks = search rules; sides = search rules } in
    parsed_by choices are _ made.is _ c.try_get_matches_from.result c.try_get_matches_from.ensures.matches c.try_get_matches_from.ensures.kinds

pub returns-clause-fault : goal.returns-clause-fault
returns-clause-fault c =
    let made = c.in_ok-command.ensures in
    let choices : Choices = record { formats = c.as_slice.result; masks = c.as_slice-2.result; sides = c.as_slice-3.result } in
    let are : AreChoices choices = record { formats = search rules; masks = search rules; sides = search rules } in
    failed_by choices are _ made.is _ c.try_get_matches_from.result (is_plain_and_free choices) c.try_get_matches_from.ensures.kinds
