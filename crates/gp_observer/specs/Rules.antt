-- The rules that a message down, or a grant, may break, each by what is known before it (G.984.3, clauses 9 and 10;
-- what is judged, and where it isn't, is this profile's own rule).
use Rattle.std.specs.Prelude.{ℕ, ◌-◌, ◌==◌, ◌&&◌, ◌||◌, nat_lt, nat_le, Bool, true, false, not, if◌then◌else◌, Option, None, Some, is_none, is_some}
use Rattle.std.specs.FinMap.{get}
use Rattle.std.specs.FinSet.{contains}
use Rattle.gp_ploam.specs.declared.message.Serial.{Serial}
use Rattle.gp_ploam.specs.declared.message.Down.{Down}
use Rattle.gp_ploam.specs.declared.message.Down.TheVariants.{AssignOnu, RangingTime, Deactivate, AssignAlloc, Popup}
use Rattle.gp_ploam.specs.OnuIds.{onu_ids, broadcast_onu}
use Rattle.gp_ploam.specs.Serials.{same_serial}
use Rattle.gp_ranging.specs.declared.grant.Grant.{Grant}
use Rattle.gp_ranging.specs.declared.grant.Grant.TheVariants.{Search, Range, Poll}
use Rattle.gp_pools.specs.Limits.{first_alloc_id}
use Rattle.gp_machine.specs.State.{some_number}
use Rattle.gp_observer.specs.Observer.{some_passes, is_of, is_unit_number}
use Rattle.gp_observer.specs.Watch.{Watch, Answers, asks_left, same_message}

-- ---- questions

-- the equalized delay that a unit is to have, in bit times, and by how many of them a delay may differ from it
pub record Settings : Type 0 where
  pub teqd : ℕ
  pub drift : ℕ

-- it is known who holds the ONU-ID, or that nobody does
abbrev pub is_judged : Watch → ℕ → Bool
is_judged watch onu = not (contains watch.unknown onu)

-- nobody holds the ONU-ID
abbrev pub is_nobodys : Watch → ℕ → Bool
is_nobodys watch onu = is_judged watch onu && is_none (get watch.seen.holder onu)

-- a unit holds it
abbrev pub is_held : Watch → ℕ → Bool
is_held watch onu = is_judged watch onu && is_some (get watch.seen.holder onu)

-- and was told no delay: it doesn't operate yet
abbrev pub is_unranged : Watch → ℕ → Bool
is_unranged watch onu = is_held watch onu && is_none (get watch.seen.delay onu)

-- another unit than this one holds the ONU-ID
abbrev pub is_anothers : Watch → ℕ → Serial → Bool
is_anothers watch onu serial = some_passes (λ holder. not (same_serial serial holder)) (get watch.seen.holder onu)

-- the unit holds an ONU-ID that passes the test
abbrev pub holds_one : Watch → Serial → (ℕ → Bool) → Bool
holds_one watch serial test = some_number 0 onu_ids (λ onu. test onu && is_of watch.seen serial onu)

-- the ONU-ID of the unit that a message is to, if it is to one
abbrev pub unit_if : ℕ → Option ℕ
unit_if onu = if onu == broadcast_onu then None else Some onu

abbrev pub unit_told : Down → Option ℕ
unit_told (RangingTime onu eqd) = Some onu
unit_told (Deactivate onu) = unit_if onu
unit_told (AssignAlloc onu alloc keep) = Some onu
unit_told (Popup onu) = unit_if onu
unit_told _ = None

-- ---- the rules of a message

-- `copies`: another message begins, and the copies of the one before aren't three, six, ..
abbrev pub breaks_copies : Watch → Down → Bool
breaks_copies watch message = not (watch.to_come == 0) && not (same_message watch.last message)

-- `range`: Assign_ONU-ID gives 254 or 255, or Assign_Alloc-ID an Alloc-ID below 256
abbrev pub breaks_range : Down → Bool
breaks_range (AssignOnu onu serial) = not (is_unit_number onu)
breaks_range (AssignAlloc onu alloc true) = nat_lt alloc first_alloc_id
breaks_range _ = false

-- `barred`: Assign_ONU-ID to a disabled serial number
abbrev pub breaks_barred : Watch → Down → Bool
breaks_barred watch (AssignOnu onu serial) = contains watch.seen.disabled serial
breaks_barred watch _ = false

-- `unasked`: Assign_ONU-ID to a serial number that has no ask left; not in the middle, where it may have asked before
abbrev pub breaks_unasked : Watch → Down → Bool
breaks_unasked watch (AssignOnu onu serial) =
    not watch.midway && is_judged watch onu && some_passes (λ asks. asks == 0) (asks_left watch serial)
breaks_unasked watch _ = false

-- `taken`: Assign_ONU-ID of one that another unit holds
abbrev pub breaks_taken : Watch → Down → Bool
breaks_taken watch (AssignOnu onu serial) = is_anothers watch onu serial
breaks_taken watch _ = false

-- `renumbered`: Assign_ONU-ID to a unit that holds another
abbrev pub breaks_renumbered : Watch → Down → Bool
breaks_renumbered watch (AssignOnu onu serial) = holds_one watch serial (λ other. not (other == onu))
breaks_renumbered watch _ = false

-- `nobody`: a message to an ONU-ID that nobody holds
abbrev pub breaks_nobody : Watch → Down → Bool
breaks_nobody watch message = some_passes (is_nobodys watch) (unit_told message)

-- `unranged`: Ranging_Time to a unit that didn't give its serial number with its ONU-ID since it was assigned
abbrev pub breaks_unranged : Watch → Down → Bool
breaks_unranged watch (RangingTime onu eqd) = is_held watch onu && is_none (get watch.answers onu)
breaks_unranged watch _ = false

-- no answer had the delay that this equalization delay leaves of the equalized one, and all delays are known
abbrev pub leaves_no_answer : Settings → ℕ → Answers → Bool
leaves_no_answer settings eqd answers =
    answers.all && not (nat_le eqd settings.teqd && contains answers.delays (settings.teqd - eqd))

-- `delay`: Ranging_Time of a delay that isn't the equalized one less that of an answer
abbrev pub breaks_delay : Settings → Watch → Down → Bool
breaks_delay settings watch (RangingTime onu eqd) =
    is_held watch onu && some_passes (leaves_no_answer settings eqd) (get watch.answers onu)
breaks_delay settings watch _ = false

-- `early`: Assign_Alloc-ID or POPUP to a unit that doesn't operate yet
abbrev pub breaks_early : Watch → Down → Bool
breaks_early watch (AssignAlloc onu alloc keep) = is_unranged watch onu
breaks_early watch (Popup onu) = not (onu == broadcast_onu) && is_unranged watch onu
breaks_early watch _ = false

-- `shared`: Assign_Alloc-ID gives one that another unit has
abbrev pub breaks_shared : Watch → Down → Bool
breaks_shared watch (AssignAlloc onu alloc true) =
    some_passes (λ other. is_judged watch other && not (other == onu)) (get watch.seen.alloc alloc)
breaks_shared watch _ = false

-- `not-held`: Assign_Alloc-ID takes one back that the unit doesn't have
abbrev pub breaks_not_held : Watch → Down → Bool
breaks_not_held watch (AssignAlloc onu alloc false) =
    is_held watch onu && not (some_passes (λ other. other == onu) (get watch.seen.alloc alloc))
breaks_not_held watch _ = false

-- ---- the rule of a grant

-- `grant`: a ranging or a poll window of an ONU-ID that nobody holds, or a poll window of a unit that doesn't operate
-- yet
abbrev pub breaks_grant : Watch → Grant → Bool
breaks_grant watch Search = false
breaks_grant watch (Range onu) = is_nobodys watch onu
breaks_grant watch (Poll onu) = is_nobodys watch onu || is_unranged watch onu
