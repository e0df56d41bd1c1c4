-- What stands where in a line of a trace (this profile's own rule).
use Rattle.std.specs.Prelude.{ℕ, Bool, true, false, List, [], if◌then◌else◌, codes}
use Rattle.std.specs.Str.{bytes_eq}
use Rattle.gp_json.specs.declared.slot.Slot.{Slot}
use Rattle.gp_json.specs.declared.slot.Slot.TheVariants as slots
use Rattle.gp_json.specs.declared.slot.Kind.{Kind}
use Rattle.gp_json.specs.declared.slot.Kind.TheVariants as kinds

-- what the part there is told as
abbrev pub kind_of : Slot → Kind
kind_of slots.Port = kinds.Number
kind_of slots.Number = kinds.Number
kind_of slots.Event = kinds.Text
kind_of slots.At = kinds.Number
kind_of slots.Code = kinds.UnitCode
kind_of slots.Serial = kinds.Text
kind_of slots.DeallocSerial = kinds.Text
kind_of slots.Dealloc = kinds.Number
kind_of slots.Equals = kinds.Silent
kind_of slots.Reply = kinds.Text
kind_of slots.Onu = kinds.Number
kind_of slots.Alloc = kinds.Number
kind_of slots.Refusal = kinds.Number
kind_of slots.Reason = kinds.Text
kind_of slots.RangedOnu = kinds.Number
kind_of slots.Eqd = kinds.Number
kind_of slots.Count = kinds.Number
kind_of slots.UnitOnu = kinds.Number
kind_of slots.Phase = kinds.Text
kind_of slots.Attempts = kinds.Number
kind_of slots.UnitEqd = kinds.Number
kind_of slots.AllocsWord = kinds.Silent
kind_of slots.Allocs = kinds.Allocs
kind_of slots.Behind = kinds.Silent
kind_of slots.Sent = kinds.TerminalCode
kind_of slots.BehindSent = kinds.Silent
kind_of slots.Grant = kinds.Text
kind_of slots.GrantOnu = kinds.Number
kind_of slots.BehindGrant = kinds.Silent
kind_of slots.Alarm = kinds.Text
kind_of slots.AlarmSerial = kinds.Text
kind_of slots.End = kinds.Unknown
kind_of slots.Unknown = kinds.Unknown

-- the name of the field that it makes
abbrev pub key_of : Slot → List ℕ
key_of slots.Port = codes "port"
key_of slots.Number = codes "number"
key_of slots.Event = codes "event"
key_of slots.At = codes "at"
key_of slots.Code = codes "code"
key_of slots.Serial = codes "serial"
key_of slots.DeallocSerial = codes "serial"
key_of slots.Dealloc = codes "alloc"
key_of slots.Equals = []
key_of slots.Reply = codes "reply"
key_of slots.Onu = codes "onu"
key_of slots.Alloc = codes "reply_alloc"
key_of slots.Refusal = codes "refusal"
key_of slots.Reason = codes "reason"
key_of slots.RangedOnu = codes "onu"
key_of slots.Eqd = codes "eqd"
key_of slots.Count = codes "count"
key_of slots.UnitOnu = codes "onu"
key_of slots.Phase = codes "phase"
key_of slots.Attempts = codes "attempts"
key_of slots.UnitEqd = codes "eqd"
key_of slots.AllocsWord = []
key_of slots.Allocs = codes "allocs"
key_of slots.Behind = []
key_of slots.Sent = codes "sent"
key_of slots.BehindSent = []
key_of slots.Grant = codes "grant"
key_of slots.GrantOnu = codes "grant_onu"
key_of slots.BehindGrant = []
key_of slots.Alarm = codes "alarm"
key_of slots.AlarmSerial = codes "alarm_serial"
key_of slots.End = []
key_of slots.Unknown = []

-- a line may end there
abbrev pub may_end : Slot → Bool
may_end slots.Behind = true
may_end slots.BehindSent = true
may_end slots.BehindGrant = true
may_end slots.End = true
may_end _ = false

-- behind the word of an event
unfoldable pub after_event : List ℕ → Slot
after_event part =
    if bytes_eq part (codes "frame") then slots.Equals
    else if bytes_eq part (codes "burst") then slots.At
    else if bytes_eq part (codes "search") then slots.Equals
    else if bytes_eq part (codes "alloc") then slots.Serial
    else if bytes_eq part (codes "dealloc") then slots.DeallocSerial
    else if bytes_eq part (codes "deactivate") then slots.Serial
    else if bytes_eq part (codes "disable") then slots.Serial
    else if bytes_eq part (codes "enable") then slots.Serial
    else if bytes_eq part (codes "enable-all") then slots.Equals
    else if bytes_eq part (codes "popup") then slots.Serial
    else if bytes_eq part (codes "popup-all") then slots.Equals
    else if bytes_eq part (codes "show") then slots.Serial
    else slots.Unknown

-- behind the word before an answer
unfoldable pub after_equals : List ℕ → Slot
after_equals part =
    if bytes_eq part (codes "=") then slots.Reply
    else slots.Unknown

-- behind the word of a reply
unfoldable pub after_reply : List ℕ → Slot
after_reply part =
    if bytes_eq part (codes "ok") then slots.Behind
    else if bytes_eq part (codes "searching") then slots.Behind
    else if bytes_eq part (codes "found") then slots.Onu
    else if bytes_eq part (codes "again") then slots.Onu
    else if bytes_eq part (codes "repeat") then slots.Onu
    else if bytes_eq part (codes "ranged") then slots.RangedOnu
    else if bytes_eq part (codes "too-far") then slots.Onu
    else if bytes_eq part (codes "still-ranging") then slots.Onu
    else if bytes_eq part (codes "restarted") then slots.Onu
    else if bytes_eq part (codes "disabled-seen") then slots.Behind
    else if bytes_eq part (codes "alive") then slots.Onu
    else if bytes_eq part (codes "acked") then slots.Alloc
    else if bytes_eq part (codes "gasp") then slots.Onu
    else if bytes_eq part (codes "allocated") then slots.Alloc
    else if bytes_eq part (codes "releasing") then slots.Alloc
    else if bytes_eq part (codes "deactivated") then slots.Onu
    else if bytes_eq part (codes "disabled") then slots.Behind
    else if bytes_eq part (codes "enabled") then slots.Behind
    else if bytes_eq part (codes "enabled-all") then slots.Behind
    else if bytes_eq part (codes "popped-up") then slots.Onu
    else if bytes_eq part (codes "popped-up-all") then slots.Count
    else if bytes_eq part (codes "unit") then slots.UnitOnu
    else if bytes_eq part (codes "refused") then slots.Refusal
    else slots.Unknown

-- behind the word of a phase
unfoldable pub after_phase : List ℕ → Slot
after_phase part =
    if bytes_eq part (codes "ranging") then slots.Attempts
    else if bytes_eq part (codes "operating") then slots.UnitEqd
    else slots.Unknown

-- behind the word before Alloc-IDs
unfoldable pub after_allocs_word : List ℕ → Slot
after_allocs_word part =
    if bytes_eq part (codes "allocs") then slots.Allocs
    else slots.Unknown

-- behind the word of a grant
unfoldable pub after_grant : List ℕ → Slot
after_grant part =
    if bytes_eq part (codes "search") then slots.BehindGrant
    else if bytes_eq part (codes "range") then slots.GrantOnu
    else if bytes_eq part (codes "poll") then slots.GrantOnu
    else slots.Unknown

-- behind a part that doesn't matter
abbrev pub next : Slot → Slot
next slots.Port = slots.Number
next slots.Number = slots.Event
next slots.At = slots.Code
next slots.Code = slots.Equals
next slots.Serial = slots.Equals
next slots.DeallocSerial = slots.Dealloc
next slots.Dealloc = slots.Equals
next slots.Onu = slots.Behind
next slots.Alloc = slots.Behind
next slots.Count = slots.Behind
next slots.Eqd = slots.Behind
next slots.RangedOnu = slots.Eqd
next slots.Refusal = slots.Reason
next slots.Reason = slots.Behind
next slots.UnitOnu = slots.Phase
next slots.Attempts = slots.AllocsWord
next slots.UnitEqd = slots.AllocsWord
next slots.Allocs = slots.Behind
next slots.Sent = slots.BehindSent
next slots.GrantOnu = slots.BehindGrant
next slots.Alarm = slots.AlarmSerial
next slots.AlarmSerial = slots.End
next _ = slots.Unknown

-- behind a word behind a reply: a message that was sent comes before a grant, and that before an alarm
abbrev pub after_answer : Slot → List ℕ → Slot
after_answer slots.Behind part =
    if bytes_eq part (codes "sent") then slots.Sent
    else if bytes_eq part (codes "grant") then slots.Grant
    else if bytes_eq part (codes "alarm") then slots.Alarm
    else slots.Unknown
after_answer slots.BehindSent part =
    if bytes_eq part (codes "grant") then slots.Grant
    else if bytes_eq part (codes "alarm") then slots.Alarm
    else slots.Unknown
after_answer slots.BehindGrant part = if bytes_eq part (codes "alarm") then slots.Alarm else slots.Unknown
after_answer _ part = slots.Unknown

-- what stands behind a part that stands there
abbrev pub slot_after : Slot → List ℕ → Slot
slot_after slots.Event part = after_event part
slot_after slots.Equals part = after_equals part
slot_after slots.Reply part = after_reply part
slot_after slots.Phase part = after_phase part
slot_after slots.AllocsWord part = after_allocs_word part
slot_after slots.Behind part = after_answer slots.Behind part
slot_after slots.BehindSent part = after_answer slots.BehindSent part
slot_after slots.BehindGrant part = after_answer slots.BehindGrant part
slot_after slots.Grant part = after_grant part
slot_after slot part = next slot
