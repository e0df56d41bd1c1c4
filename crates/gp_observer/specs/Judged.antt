-- Of what a rule is judged: what is heard can break it or keep it, by what is known before it (this profile's own
-- rule). Of anything else nothing is said by the rule, so that it is kept says nothing either.
use Rattle.std.specs.Prelude.{◌≡◌, ◌==◌, ◌&&◌, ◌||◌, ℕ, Bool, true, false, not, Option, None, Some, is_some}
use Rattle.std.specs.FinMap.{get}
use Rattle.std.specs.FinSet.{contains}
use Rattle.std.specs.List.{list_all}
use Rattle.gp_ploam.specs.declared.message.Serial.{Serial}
use Rattle.gp_ploam.specs.declared.message.Down.{Down}
use Rattle.gp_ploam.specs.declared.message.Down.TheVariants.{AssignOnu, RangingTime, AssignAlloc, Popup, NoMessage}
use Rattle.gp_ploam.specs.declared.message.Up.{Up}
use Rattle.gp_ploam.specs.declared.message.Up.TheVariants.{SerialNumber, Acknowledge}
use Rattle.gp_ploam.specs.OnuIds.{broadcast_onu}
use Rattle.gp_ploam.specs.Up.{octet1_of}
use Rattle.gp_ranging.specs.declared.grant.Grant.{Grant}
use Rattle.gp_ranging.specs.declared.grant.Grant.TheVariants.{Range, Poll}
use Rattle.gp_observer.specs.declared.rule.Rule.{Rule}
use Rattle.gp_observer.specs.declared.rule.Rule.TheVariants as rule
use Rattle.gp_observer.specs.Heard.{Heard, HeardDown, HeardUp, HeardGrant, breaks}
use Rattle.gp_observer.specs.Observer.{some_passes}
use Rattle.gp_observer.specs.Rules.{Settings, holds_one, is_held, is_judged, unit_told}
use Rattle.gp_observer.specs.UnitRules.{breaks_number}
use Rattle.gp_observer.specs.Watch.{Answers, Watch, can_follow, is_new, same_message}

-- ---- what is known

-- all that was said of the serial number is known: it is followed, and nothing was said before
abbrev pub knows_serial : Watch → Serial → Bool
knows_serial watch serial = not watch.midway && can_follow watch serial

-- it is known whether the serial number is disabled
abbrev pub knows_disabled : Watch → Serial → Bool
knows_disabled watch serial = knows_serial watch serial || contains watch.seen.disabled serial

-- it is known whether the serial number holds an ONU-ID
abbrev pub knows_held : Watch → Serial → Bool
knows_held watch serial = knows_serial watch serial || holds_one watch serial (λ held. true)

-- it is known whose the Alloc-ID is, or that it is nobody's
abbrev pub knows_owner : Watch → Option ℕ → Bool
knows_owner watch (Some owner) = is_judged watch owner
knows_owner watch None = not watch.midway

-- ---- the rules of a message down

-- `copies`: a message that came before has had its copies, or not
abbrev pub judges_copies : Watch → Bool
judges_copies watch = not (watch.to_come == 0) || (not watch.cut && not (same_message watch.last NoMessage))

-- `barred`: Assign_ONU-ID to a serial number of which it is known whether it is disabled
abbrev pub judges_barred : Watch → Down → Bool
judges_barred watch (AssignOnu onu serial) = knows_disabled watch serial
judges_barred watch _ = false

-- `range`: Assign_ONU-ID, and Assign_Alloc-ID that gives one
abbrev pub gives_number : Down → Bool
gives_number (AssignOnu onu serial) = true
gives_number (AssignAlloc onu alloc keep) = keep
gives_number _ = false

-- `unasked`: Assign_ONU-ID to a serial number of which it is known how often it asked
abbrev pub judges_unasked : Watch → Down → Bool
judges_unasked watch (AssignOnu onu serial) = not watch.midway && is_judged watch onu && can_follow watch serial
judges_unasked watch _ = false

-- `taken`: Assign_ONU-ID of one of which it is known who holds it, or that nobody does
abbrev pub judges_taken : Watch → Down → Bool
judges_taken watch (AssignOnu onu serial) = is_judged watch onu || is_some (get watch.seen.holder onu)
judges_taken watch _ = false

-- `renumbered`: Assign_ONU-ID to a serial number of which it is known whether it holds one
abbrev pub judges_renumbered : Watch → Down → Bool
judges_renumbered watch (AssignOnu onu serial) = knows_held watch serial
judges_renumbered watch _ = false

-- `nobody`: a message to one of which it is known who holds it, or that nobody does
abbrev pub judges_nobody : Watch → Down → Bool
judges_nobody watch message = some_passes (is_judged watch) (unit_told message)

-- `unranged`: Ranging_Time to a unit
abbrev pub judges_unranged : Watch → Down → Bool
judges_unranged watch (RangingTime onu eqd) = is_held watch onu
judges_unranged watch _ = false

-- all delays of the answers that a unit gave are known
abbrev pub knows_delays : Watch → ℕ → Bool
knows_delays watch onu = some_passes (λ (answers : Answers). answers.all) (get watch.answers onu)

-- `delay`: Ranging_Time to a unit whose answers had delays
abbrev pub judges_delay : Watch → Down → Bool
judges_delay watch (RangingTime onu eqd) = is_held watch onu && knows_delays watch onu
judges_delay watch _ = false

-- `early`: Assign_Alloc-ID or POPUP to a unit
abbrev pub judges_early : Watch → Down → Bool
judges_early watch (AssignAlloc onu alloc keep) = is_held watch onu
judges_early watch (Popup onu) = not (onu == broadcast_onu) && is_held watch onu
judges_early watch _ = false

-- `shared`: Assign_Alloc-ID gives one of which it is known whose it is, or that it is nobody's
abbrev pub judges_shared : Watch → Down → Bool
judges_shared watch (AssignAlloc onu alloc keep) = keep && knows_owner watch (get watch.seen.alloc alloc)
judges_shared watch _ = false

-- `not-held`: Assign_Alloc-ID takes one back from a unit
abbrev pub judges_not_held : Watch → Down → Bool
judges_not_held watch (AssignAlloc onu alloc keep) = not keep && is_held watch onu
judges_not_held watch _ = false

-- the rule is judged of a message that is told
abbrev pub message_judges : Watch → Down → Rule → Bool
message_judges watch _ rule.Copies = judges_copies watch
message_judges watch message rule.Range = gives_number message
message_judges watch message rule.Barred = judges_barred watch message
message_judges watch message rule.Unasked = judges_unasked watch message
message_judges watch message rule.Taken = judges_taken watch message
message_judges watch message rule.Renumbered = judges_renumbered watch message
message_judges watch message rule.Nobody = judges_nobody watch message
message_judges watch message rule.Unranged = judges_unranged watch message
message_judges watch message rule.Delay = judges_delay watch message
message_judges watch message rule.Early = judges_early watch message
message_judges watch message rule.Shared = judges_shared watch message
message_judges watch message rule.NotHeld = judges_not_held watch message
message_judges watch _ _ = false

-- ---- those of a message up

-- `disabled`: a unit asks of which it is known whether it is disabled
abbrev pub judges_disabled : Watch → Up → Bool
judges_disabled watch (SerialNumber onu serial random flags) = onu == broadcast_onu && knows_disabled watch serial
judges_disabled watch _ = false

-- `anew`: a unit asks of which it is known whether it holds an ONU-ID
abbrev pub judges_anew : Watch → Up → Bool
judges_anew watch (SerialNumber onu serial random flags) = onu == broadcast_onu && knows_held watch serial
judges_anew watch _ = false

-- `number`: it speaks with an ONU-ID of which it is known who holds it, or that nobody does
abbrev pub judges_number : Watch → Up → Bool
judges_number watch message = not (octet1_of message == broadcast_onu) && is_judged watch (octet1_of message)

-- `acknowledge`: a unit acknowledges an Assign_Alloc-ID
abbrev pub judges_acknowledge : Watch → Up → Bool
judges_acknowledge watch (Acknowledge onu id copy) = id == 10 && is_held watch onu
judges_acknowledge watch _ = false

-- `drift`: its delay was measured, and it was told one
abbrev pub judges_drift : Watch → Up → Option ℕ → Bool
judges_drift watch message None = false
judges_drift watch message (Some delay) =
    not (octet1_of message == broadcast_onu) && not (breaks_number watch message)
    && is_some (get watch.seen.delay (octet1_of message))

-- the rule is judged of a message up
abbrev pub answer_judges : Watch → Up → Option ℕ → Rule → Bool
answer_judges watch _ delay rule.Garbled = true
answer_judges watch message delay rule.Disabled = judges_disabled watch message
answer_judges watch message delay rule.Anew = judges_anew watch message
answer_judges watch message delay rule.Number = judges_number watch message
answer_judges watch message delay rule.Acknowledge = judges_acknowledge watch message
answer_judges watch message delay rule.Drift = judges_drift watch message delay
answer_judges watch _ delay _ = false

-- ---- what is heard

-- `garbled`: any code
abbrev pub judges_garbled : Rule → Bool
judges_garbled rule.Garbled = true
judges_garbled _ = false

-- a message down is judged with the copy that tells it
abbrev pub copy_judges : Watch → Down → Rule → Bool
copy_judges watch message rule = is_new watch message && message_judges watch message rule

abbrev pub down_judges : Watch → Option Down → Rule → Bool
down_judges watch None rule = judges_garbled rule
down_judges watch (Some NoMessage) rule = judges_garbled rule
down_judges watch (Some message) rule = judges_garbled rule || copy_judges watch message rule

abbrev pub up_judges : Watch → Option Up → Option ℕ → Rule → Bool
up_judges watch None delay rule = judges_garbled rule
up_judges watch (Some message) delay rule = answer_judges watch message delay rule

-- `grant`: a ranging or a poll window of an ONU-ID of which it is known who holds it, or that nobody does
abbrev pub grant_judges : Watch → Grant → Rule → Bool
grant_judges watch (Range onu) rule.Grant = is_judged watch onu
grant_judges watch (Poll onu) rule.Grant = is_judged watch onu
grant_judges watch _ _ = false

-- the rule is judged of what is heard, by what is known before it
abbrev pub judges : Watch → Heard → Rule → Bool
judges watch (HeardDown message) rule = down_judges watch message rule
judges watch (HeardUp message delay) rule = up_judges watch message delay rule
judges watch (HeardGrant grant) rule = grant_judges watch grant rule

-- ---- the law

-- a rule that is broken was judged
abbrev pub BrokenAreJudged : Type 0
BrokenAreJudged =
    (settings : Settings) (watch : Watch) (heard : Heard)
    → list_all (judges watch heard) (breaks settings watch heard) ≡ true
