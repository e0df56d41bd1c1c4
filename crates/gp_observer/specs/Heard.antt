-- What is heard on the fibre: which rules it breaks, in their order, and what is known after it (this profile's own
-- rule).
use Rattle.std.specs.Prelude.{ℕ, Bool, true, false, if◌then◌else◌, List, [], ◌∷◌, ◌++◌, Option, None, Some}
use Rattle.gp_ploam.specs.declared.message.Down.{Down}
use Rattle.gp_ploam.specs.declared.message.Down.TheVariants.{NoMessage}
use Rattle.gp_ploam.specs.declared.message.Up.{Up}
use Rattle.gp_ranging.specs.declared.grant.Grant.{Grant}
use Rattle.gp_observer.specs.declared.rule.Rule.{Rule}
use Rattle.gp_observer.specs.declared.rule.Rule.TheVariants as rule
use Rattle.gp_observer.specs.Watch.{Watch, is_new, after_down, after_up}
use Rattle.gp_observer.specs.Rules.{Settings, breaks_copies, breaks_range, breaks_barred, breaks_unasked, breaks_taken, breaks_renumbered, breaks_nobody, breaks_unranged, breaks_delay, breaks_early, breaks_shared, breaks_not_held, breaks_grant}
use Rattle.gp_observer.specs.UnitRules.{breaks_disabled, breaks_anew, breaks_number, breaks_acknowledge, breaks_drift}

-- what is heard: a message down, or one up with its delay where that was measured, each None where its check octet is
-- wrong; or a grant
pub data Heard : Type 0 where
  HeardDown : (message : Option Down) → Heard
  HeardUp : (message : Option Up) (delay : Option ℕ) → Heard
  HeardGrant : (grant : Grant) → Heard

-- ---- which rules are broken

-- the rules that are broken, of these
abbrev pub broken_of : List (Bool × Rule) → List Rule
broken_of [] = []
broken_of ((broken, rule) ∷ rules) = if broken then rule ∷ broken_of rules else broken_of rules

-- the rules of a message down
abbrev pub message_rules : Settings → Watch → Down → List (Bool × Rule)
message_rules settings watch message =
    (breaks_copies watch message, rule.Copies)
    ∷ (breaks_range message, rule.Range)
    ∷ (breaks_barred watch message, rule.Barred)
    ∷ (breaks_unasked watch message, rule.Unasked)
    ∷ (breaks_taken watch message, rule.Taken)
    ∷ (breaks_renumbered watch message, rule.Renumbered)
    ∷ (breaks_nobody watch message, rule.Nobody)
    ∷ (breaks_unranged watch message, rule.Unranged)
    ∷ (breaks_delay settings watch message, rule.Delay)
    ∷ (breaks_early watch message, rule.Early)
    ∷ (breaks_shared watch message, rule.Shared)
    ∷ (breaks_not_held watch message, rule.NotHeld)
    ∷ []

-- those of one up
abbrev pub answer_rules : Settings → Watch → Up → Option ℕ → List (Bool × Rule)
answer_rules settings watch message delay =
    (breaks_disabled watch message, rule.Disabled)
    ∷ (breaks_anew watch message, rule.Anew)
    ∷ (breaks_number watch message, rule.Number)
    ∷ (breaks_acknowledge watch message, rule.Acknowledge)
    ∷ (breaks_drift settings watch message delay, rule.Drift)
    ∷ []

-- a message down is judged with the copy that tells it
abbrev pub copy_breaks : Settings → Watch → Down → List Rule
copy_breaks settings watch message =
    if is_new watch message then broken_of (message_rules settings watch message) else []

abbrev pub down_breaks : Settings → Watch → Option Down → List Rule
down_breaks settings watch None = rule.Garbled ∷ []
down_breaks settings watch (Some NoMessage) = []
down_breaks settings watch (Some message) = copy_breaks settings watch message

abbrev pub up_breaks : Settings → Watch → Option Up → Option ℕ → List Rule
up_breaks settings watch None delay = rule.Garbled ∷ []
up_breaks settings watch (Some message) delay = broken_of (answer_rules settings watch message delay)

-- the rules that are broken by what is heard
abbrev pub breaks : Settings → Watch → Heard → List Rule
breaks settings watch (HeardDown message) = down_breaks settings watch message
breaks settings watch (HeardUp message delay) = up_breaks settings watch message delay
breaks settings watch (HeardGrant grant) = broken_of ((breaks_grant watch grant, rule.Grant) ∷ [])

-- ---- what is known after it

abbrev pub watch_after : Watch → Heard → Watch
watch_after watch (HeardDown message) = after_down watch message
watch_after watch (HeardUp message delay) = after_up watch message delay
watch_after watch (HeardGrant grant) = watch

-- what is known after all that is heard
abbrev pub watch_after_all : Watch → List Heard → Watch
watch_after_all watch [] = watch
watch_after_all watch (heard ∷ others) = watch_after_all (watch_after watch heard) others

-- what each breaks, by what is known before it
abbrev pub findings : Settings → Watch → List Heard → List (List Rule)
findings settings watch [] = []
findings settings watch (heard ∷ others) =
    breaks settings watch heard ∷ findings settings (watch_after watch heard) others

-- ---- the terminal's side

-- the terminal says it
abbrev pub is_terminals : Heard → Bool
is_terminals (HeardDown message) = true
is_terminals (HeardUp message delay) = false
is_terminals (HeardGrant grant) = true

-- all rules that the terminal breaks
abbrev pub terminal_breaks : Settings → Watch → List Heard → List Rule
terminal_breaks settings watch [] = []
terminal_breaks settings watch (heard ∷ others) =
    (if is_terminals heard then breaks settings watch heard else [])
    ++ terminal_breaks settings (watch_after watch heard) others
