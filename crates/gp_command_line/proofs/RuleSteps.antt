-- What each step of a chain makes of an argument's rule.
use Rattle.std.proofs.Common.{◌≡◌, ◌∷◌, ℕ, Bool, [], Some, ap, ◌∙◌}
use Rattle.std.specs.Borrow.{Bor}
use Rattle.clap.specs.Words.{Rule, Text, rule_of}
use Rattle.clap.specs.declared.builder.action.ArgAction.{ArgAction}
use Rattle.clap.specs.declared.builder.arg.Arg.{Arg}
use Rattle.clap.specs.declared.builder.texts.Texts.TheVariants.{One}
use Rattle.clap.specs.declared.builder.value_parser.ValueParser.{ValueParser}
use Rattle.gp_command_line.specs.CommandLine.{HasRule}

module _ {old new : Arg} {rule : Rule} (was : HasRule rule old) where
  pub with_long : (name : Bor Text) → new ≡ record old { long = Some name } → HasRule (record rule { long = Some name.now }) new
  with_long name is = record { is = ap rule_of is ∙ ap (λ (r : Rule). record r { long = Some name.now }) was.is; local = ap (λ (a : Arg). a.global) is ∙ was.local }

  pub with_short : (short : ℕ) → new ≡ record old { short = Some short } → HasRule (record rule { short = Some short }) new
  with_short short is = record { is = ap rule_of is ∙ ap (λ (r : Rule). record r { short = Some short }) was.is; local = ap (λ (a : Arg). a.global) is ∙ was.local }

  pub with_action : (action : ArgAction) → new ≡ record old { action = Some action } → HasRule (record rule { action = Some action }) new
  with_action action is = record { is = ap rule_of is ∙ ap (λ (r : Rule). record r { action = Some action }) was.is; local = ap (λ (a : Arg). a.global) is ∙ was.local }

  pub with_required : (must : Bool) → new ≡ record old { required = must } → HasRule (record rule { required = must }) new
  with_required must is = record { is = ap rule_of is ∙ ap (λ (r : Rule). record r { required = must }) was.is; local = ap (λ (a : Arg). a.global) is ∙ was.local }

  pub with_value_name : (name : Bor Text) → new ≡ record old { val_names = One name } → HasRule (record rule { value_names = 1 }) new
  with_value_name name is = record { is = ap rule_of is ∙ ap (λ (r : Rule). record r { value_names = 1 }) was.is; local = ap (λ (a : Arg). a.global) is ∙ was.local }

  pub with_default : (value : Bor Text) → new ≡ record old { default_vals = One value } → HasRule (record rule { defaults = value.now ∷ [] }) new
  with_default value is = record { is = ap rule_of is ∙ ap (λ (r : Rule). record r { defaults = value.now ∷ [] }) was.is; local = ap (λ (a : Arg). a.global) is ∙ was.local }

  pub with_parser : (parser : ValueParser) → new ≡ record old { value_parser = new.value_parser } → new.value_parser ≡ Some parser → HasRule (record rule { parser = Some parser }) new
  with_parser parser is given = record {
    is = ap rule_of (is ∙ ap (λ p. record old { value_parser = p }) given) ∙ ap (λ (r : Rule). record r { parser = Some parser }) was.is;
    local = ap (λ (a : Arg). a.global) is ∙ was.local;
  }

  pub with_help : (help : Bor Text) → new ≡ record old { help = Some help } → HasRule rule new
  with_help help is = record { is = ap rule_of is ∙ was.is; local = ap (λ (a : Arg). a.global) is ∙ was.local }
