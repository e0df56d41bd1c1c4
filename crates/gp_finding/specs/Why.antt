-- Why a rule is broken, by what is known before (this profile's own rule). What can't break a rule has no reason.
use Rattle.std.specs.Prelude.{ℕ, ◌-◌, ◌==◌, nat_le, Bool, true, false, if◌then◌else◌, List, slice_index, Option, None, Some}
use Rattle.std.specs.FinMap.{get}
use Rattle.gp_ploam.specs.declared.check.Mask.{Mask}
use Rattle.gp_ploam.specs.declared.message.Serial.{Serial}
use Rattle.gp_ploam.specs.declared.message.Down.{Down}
use Rattle.gp_ploam.specs.declared.message.Down.TheVariants as down
use Rattle.gp_ploam.specs.declared.message.Up.{Up}
use Rattle.gp_ploam.specs.declared.message.Up.TheVariants as up
use Rattle.gp_ploam.specs.Up.{octet1_of}
use Rattle.gp_ranging.specs.declared.grant.Grant.{Grant}
use Rattle.gp_ranging.specs.declared.grant.Grant.TheVariants as grants
use Rattle.gp_decode.specs.Lines.{other_mask, wanted_check}
use Rattle.gp_observer.specs.declared.rule.Rule.{Rule}
use Rattle.gp_observer.specs.declared.rule.Rule.TheVariants as rule
use Rattle.gp_observer.specs.Watch.{Watch}
use Rattle.gp_observer.specs.Rules.{Settings, unit_told}
use Rattle.gp_observer.specs.Heard.{Heard, HeardDown, HeardUp, HeardGrant}
use Rattle.gp_watch.specs.Changes.{onu_held}
use Rattle.gp_log.specs.declared.said.Said.{Said}
use Rattle.gp_log.specs.declared.said.Said.TheVariants as said
use Rattle.gp_finding.specs.declared.why.Why.{Why}
use Rattle.gp_finding.specs.declared.why.Why.TheVariants as why

-- ---- what is known

-- who holds an ONU-ID, or that nobody does
abbrev pub holder_why : ℕ → Option Serial → Why
holder_why onu None = why.Nobody onu
holder_why onu (Some serial) = why.Held onu serial

-- which ONU-ID has an Alloc-ID, or that nobody does
abbrev pub owner_why : ℕ → Option ℕ → Why
owner_why alloc None = why.Unowned alloc
owner_why alloc (Some onu) = why.Owned alloc onu

-- which ONU-ID a serial number holds, if it holds one
abbrev pub held_why : Option ℕ → Why
held_why None = why.Nothing
held_why (Some onu) = why.Holds onu

-- ---- a wrong check octet

-- what would be right: another mask, or another octet
abbrev pub check_why : Mask → List ℕ → Why
check_why mask code =
    if wanted_check (other_mask mask) code == slice_index code 12 then why.RightUnder (other_mask mask)
    else why.Wanted (wanted_check mask code)

-- a grant has no check octet
abbrev pub said_why : Mask → Said → Why
said_why mask (said.Down code) = check_why mask code
said_why mask (said.Up code delay) = check_why mask code
said_why mask (said.Grant grant) = why.Nothing

abbrev pub garbled_why : Mask → Said → Rule → Why
garbled_why mask said rule.Garbled = said_why mask said
garbled_why mask said _ = why.Nothing

-- ---- a message down

abbrev pub range_why : Down → Why
range_why (down.AssignOnu onu serial) = why.OnuRange
range_why (down.AssignAlloc onu alloc true) = why.AllocRange
range_why _ = why.Nothing

-- what holds of Assign_ONU-ID alone
abbrev pub assign_why : Why → Down → Why
assign_why reason (down.AssignOnu onu serial) = reason
assign_why reason _ = why.Nothing

abbrev pub taken_why : Watch → Down → Why
taken_why watch (down.AssignOnu onu serial) = holder_why onu (get watch.seen.holder onu)
taken_why watch _ = why.Nothing

abbrev pub renumbered_why : Watch → Down → Why
renumbered_why watch (down.AssignOnu onu serial) = held_why (onu_held watch serial)
renumbered_why watch _ = why.Nothing

abbrev pub unheld_why : Option ℕ → Why
unheld_why None = why.Nothing
unheld_why (Some onu) = why.Nobody onu

abbrev pub nobody_why : Down → Why
nobody_why message = unheld_why (unit_told message)

abbrev pub unranged_why : Down → Why
unranged_why (down.RangingTime onu eqd) = why.Unheard onu
unranged_why _ = why.Nothing

-- the delay that an answer should have had, or that there is none so great
abbrev pub delay_why : Settings → Down → Why
delay_why settings (down.RangingTime onu eqd) =
    if nat_le eqd settings.teqd then why.Unanswered (settings.teqd - eqd) else why.Equalized settings.teqd
delay_why settings _ = why.Nothing

abbrev pub early_why : Down → Why
early_why (down.AssignAlloc onu alloc keep) = why.Unranged
early_why (down.Popup onu) = why.Unranged
early_why _ = why.Nothing

abbrev pub shared_why : Watch → Down → Why
shared_why watch (down.AssignAlloc onu alloc true) = owner_why alloc (get watch.seen.alloc alloc)
shared_why watch _ = why.Nothing

abbrev pub not_held_why : Watch → Down → Why
not_held_why watch (down.AssignAlloc onu alloc false) = owner_why alloc (get watch.seen.alloc alloc)
not_held_why watch _ = why.Nothing

abbrev pub down_why : Settings → Watch → Down → Rule → Why
down_why settings watch _ rule.Copies = why.Missing watch.to_come
down_why settings watch message rule.Range = range_why message
down_why settings watch message rule.Barred = assign_why why.Disabled message
down_why settings watch message rule.Unasked = assign_why why.Unasked message
down_why settings watch message rule.Taken = taken_why watch message
down_why settings watch message rule.Renumbered = renumbered_why watch message
down_why settings watch message rule.Nobody = nobody_why message
down_why settings watch message rule.Unranged = unranged_why message
down_why settings watch message rule.Delay = delay_why settings message
down_why settings watch message rule.Early = early_why message
down_why settings watch message rule.Shared = shared_why watch message
down_why settings watch message rule.NotHeld = not_held_why watch message
down_why settings watch _ _ = why.Nothing

-- ---- a message up

abbrev pub disabled_why : Up → Why
disabled_why (up.SerialNumber onu serial random flags) = why.Disabled
disabled_why _ = why.Nothing

abbrev pub anew_why : Watch → Up → Why
anew_why watch (up.SerialNumber onu serial random flags) = held_why (onu_held watch serial)
anew_why watch _ = why.Nothing

abbrev pub acknowledge_why : Up → Why
acknowledge_why (up.Acknowledge onu id copy) = why.Untold
acknowledge_why _ = why.Nothing

-- the delay that the unit was ranged with, if it was, and the one that it has
abbrev pub ranged_why : Settings → ℕ → Option ℕ → Why
ranged_why settings delay None = why.Nothing
ranged_why settings delay (Some eqd) = why.Ranged (settings.teqd - eqd) delay

abbrev pub drift_why : Settings → Watch → Up → Option ℕ → Why
drift_why settings watch message None = why.Nothing
drift_why settings watch message (Some delay) =
    ranged_why settings delay (get watch.seen.delay (octet1_of message))

abbrev pub up_why : Settings → Watch → Up → Option ℕ → Rule → Why
up_why settings watch message delay rule.Disabled = disabled_why message
up_why settings watch message delay rule.Anew = anew_why watch message
up_why settings watch message delay rule.Number =
    holder_why (octet1_of message) (get watch.seen.holder (octet1_of message))
up_why settings watch message delay rule.Acknowledge = acknowledge_why message
up_why settings watch message delay rule.Drift = drift_why settings watch message delay
up_why settings watch message delay _ = why.Nothing

-- ---- a grant

-- nobody holds the ONU-ID, or who does has no delay
abbrev pub window_why : ℕ → Option Serial → Why
window_why onu None = why.Nobody onu
window_why onu (Some serial) = why.Undelayed onu

abbrev pub granted_why : Watch → Grant → Why
granted_why watch grants.Search = why.Nothing
granted_why watch (grants.Range onu) = window_why onu (get watch.seen.holder onu)
granted_why watch (grants.Poll onu) = window_why onu (get watch.seen.holder onu)

abbrev pub grant_why : Watch → Grant → Rule → Why
grant_why watch grant rule.Grant = granted_why watch grant
grant_why watch grant _ = why.Nothing

-- ---- what is heard

-- why a rule is broken by what is heard where this was said
abbrev pub why_of : Mask → Settings → Watch → Said → Heard → Rule → Why
why_of mask settings watch said (HeardDown None) rule = garbled_why mask said rule
why_of mask settings watch said (HeardDown (Some message)) rule = down_why settings watch message rule
why_of mask settings watch said (HeardUp None delay) rule = garbled_why mask said rule
why_of mask settings watch said (HeardUp (Some message) delay) rule = up_why settings watch message delay rule
why_of mask settings watch said (HeardGrant grant) rule = grant_why watch grant rule
