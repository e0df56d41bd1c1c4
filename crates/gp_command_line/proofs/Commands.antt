-- What arguments make of a command, and commands of the program.
use Rattle.std.proofs.Common.{◌≡◌, ◌≢◌, ◌∷◌, ◌||◌, true, false, List, [], Some, Result, Ok, Err, IfOk, IfErr, ap, subst, ◌∙◌, inl, inr}
use Rattle.std.specs.Borrow.{Bor}
use Rattle.clap.specs.Words.{AddsArg, AddsInTurn, AddsSubcommand, App, FailsBy, IsAmong, Rule, Text, app_of, fault_of, is_simple_and_free, kind_of, rule_of, shape_of, with_rule, with_subcommand}
use Rattle.clap.specs.declared.builder.arg.Arg.{Arg}
use Rattle.clap.specs.declared.builder.command.Command.{Command}
use Rattle.clap.specs.declared.builder.command.Command.TheViews.{out-Command as fields_of}
use Rattle.clap.specs.declared.error.Error.{Error}
use Rattle.clap.specs.declared.error.kind.ErrorKind.TheVariants as kinds
use Rattle.clap.specs.declared.parser.matches.ArgMatches.{ArgMatches}
use Rattle.gp_command_line.specs.CommandLine.{AreChoices, Choices, HasRule, IsFaultOf, ReadsAs, oltctl_command, with_rules}

-- a command that was begun: its name, what it is about and its help
pub begun : (new told helped : Command) (app : App) (about help : Bor Text) → app_of new ≡ app → (fields_of new).has_globals ≡ false
    → fields_of told ≡ record (fields_of new) { about = Some about } → fields_of helped ≡ record (fields_of told) { after_help = Some help } → ReadsAs app helped
begun new told helped app about help is local tells helps = record { is = rw (helps, tells) is; local = rw (helps, tells) local }

-- each argument has the rule of its place
abbrev pub HaveRules : List Rule → List Arg → Type 0
HaveRules [] [] = Unit {0}
HaveRules (rule ∷ rules) (arg ∷ args) = HasRule rule arg × HaveRules rules args
HaveRules _ _ = ⊥

-- one argument more
pub ruled : (old new : Command) (arg : Arg) (app : App) (rule : Rule) → AddsArg old arg new → ReadsAs app old → HasRule rule arg → ReadsAs (with_rule app rule) new
ruled old new arg app rule adds was has = record {
  is = adds.shape has.local ∙ ap (λ (a : App). with_rule a (rule_of arg)) was.is ∙ ap (λ (r : Rule). with_rule app r) has.is;
  local = adds.globals ∙ ap (λ b. b || arg.global) was.local ∙ has.local;
}

-- some more, in turn
pub all_ruled : (args : List Arg) (rules : List Rule) (old new : Command) (app : App) → ReadsAs app old → HaveRules rules args → AddsInTurn AddsArg old args new → ReadsAs (with_rules app rules) new
all_ruled [] [] old new app was have adds = subst (ReadsAs app) adds was
all_ruled (arg ∷ args) (rule ∷ rules) old new app was have adds = all_ruled args rules adds.0 new (with_rule app rule) (ruled old adds.0 arg app rule adds.1 was have.0) have.1 adds.2
all_ruled [] (rule ∷ rules) old new app was have adds = absurd have
all_ruled (arg ∷ args) [] old new app was have adds = absurd have

-- the same, of a list that is these
pub ruled_in : (rules : List Rule) (args items : List Arg) (old new : Command) (app : App) → ReadsAs app old → items ≡ args → HaveRules rules args → AddsInTurn AddsArg old items new
    → ReadsAs (with_rules app rules) new
ruled_in rules args items old new app was same have adds = all_ruled args rules old new app was have (subst (λ xs. AddsInTurn AddsArg old xs new) same adds)

-- the same, where there may be no memory
pub ruled_by : {E : Type 0} (r : Result Command E) (rules : List Rule) (args items : List Arg) (old : Command) (app : App) → ReadsAs app old → items ≡ args → HaveRules rules args
    → IfOk r (AddsInTurn AddsArg old items) → IfOk r (ReadsAs (with_rules app rules))
ruled_by (Ok new) rules args items old app was same have adds = ruled_in rules args items old new app was same have adds
ruled_by (Err e) rules args items old app was same have adds = tt

-- one command more
pub added : (old sub new : Command) (before of : App) → AddsSubcommand old sub new → ReadsAs before old → ReadsAs of sub → ReadsAs (with_subcommand before of.top) new
added old sub new before of adds was is = record {
  is = adds.shape is.local ∙ ap (λ (a : App). with_subcommand a (shape_of sub)) was.is ∙ ap (λ (a : App). with_subcommand before a.top) is.is;
  local = adds.globals ∙ ap (λ b. b || (fields_of sub).has_globals) was.local ∙ is.local;
}

-- the last one of some
pub last_added : {E : Type 0} (r : Result Command E) (old sub : Command) (before of : App) → IfOk r (AddsSubcommand old sub) → ReadsAs before old → ReadsAs of sub
    → IfOk r (ReadsAs (with_subcommand before of.top))
last_added (Ok new) old sub before of adds was is = added old sub new before of adds was is
last_added (Err e) old sub before of adds was is = tt

-- what is wrong with the words
pub failed_by : (choices : Choices) → AreChoices choices → (app : App) → app ≡ oltctl_command choices → (words : List Text) (r : Result ArgMatches Error)
    → is_simple_and_free (oltctl_command choices) ≡ true → (is_simple_and_free app ≡ true → FailsBy (fault_of app words) r)
    → IfErr r (λ e. kind_of e ≢ kinds.OutOfMemory → IsFaultOf words (kind_of e))
failed_by choices are app same words (Ok m) plain fails = tt
failed_by choices are app same words (Err e) plain fails = λ other.
    elim (fails (ap is_simple_and_free same ∙ plain)) [
      | inl memory ↦ absurd (other memory)
      | inr among ↦ record { choices = choices; are = are; among = subst (λ (a : App). IsAmong (kind_of e) (fault_of a words)) same among }
    ]
