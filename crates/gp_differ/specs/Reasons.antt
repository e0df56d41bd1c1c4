-- Why a line is not the one that the machine says in its place (this profile's own rule).
use Rattle.std.specs.Prelude.{◌≡◌, ℕ, ◌⊎◌, ◌%◌, ◌==◌, Bool, true, false, List, [], ◌++◌, Option, None, Some, Result, Ok, Err, MatchResult, codes, slice_index, if◌then◌else◌}
use Rattle.std.specs.List.{starts_with}
use Rattle.std.specs.Str.{bytes_eq}
use Rattle.hex.specs.Hex.{decode_sized}
use Rattle.hex.specs.declared.error.FromHexError.{FromHexError}
use Rattle.gp_ploam.specs.declared.check.Mask.{Mask}
use Rattle.gp_decode.specs.Line.{HasWords, HasWrongCheck}
use Rattle.gp_decode.specs.Lines.{check_note, wanted_check}
use Rattle.gp_differ.specs.declared.difference.Difference.{Difference}
use Rattle.gp_differ.specs.declared.difference.Difference.TheVariants.{Blank, Port, Number, Event, Reply, Sent, Grant, Alarm}
use Rattle.gp_differ.specs.Parts.{Spelled, or_empty, spelled}
use Rattle.gp_differ.specs.Alike.{blank_reason, difference_of}

-- the octets of a code of the line terminal: the words of its message, or, where the check octet is wrong, the digits
-- as they stand
abbrev pub TellsOctets : Mask → List ℕ → List ℕ → List ℕ → Type 0
TellsOctets mask part octets told = HasWords false mask octets told ⊎ (HasWrongCheck mask octets × (told ≡ part))

-- a text that should be a code; one that isn't the digits of thirteen octets stays as it is
abbrev pub TellsMessage : Mask → List ℕ → List ℕ → Type 0
TellsMessage mask part told =
    MatchResult (decode_sized part 13) (λ octets. TellsOctets mask part octets told) (λ _. told ≡ part)

-- a text between marks
abbrev pub marked : List ℕ → List ℕ
marked text = codes "`" ++ text ++ codes "`"

-- what the line has
abbrev pub not_text : List ℕ → List ℕ
not_text text = codes ", not " ++ marked text

-- the same of a part that may be absent, in these words
abbrev pub not_words : Option (List ℕ) → List ℕ → List ℕ
not_words None words = codes ", and the line has none"
not_words (Some _) words = not_text words

abbrev pub not_part : Option (List ℕ) → List ℕ
not_part part = not_words part (or_empty part)

-- which of its message's three copies was sent, where so many copies are owed behind it: they are sent one after the
-- other, and none is taken back
abbrev pub copy_name : ℕ → List ℕ
copy_name left =
    if left % 3 == 2 then codes "first" else if left % 3 == 1 then codes "second" else codes "third"

-- only a frame sends and grants
abbrev pub is_frame : Spelled → Bool
is_frame said = bytes_eq said.event (codes "frame")

-- why nothing is sent
abbrev pub no_message_cause : Bool → List ℕ
no_message_cause true = codes "none is owed"
no_message_cause false = codes "none, since only a frame sends one"

-- the message that is owed, in these words, with so many copies behind it
abbrev pub sent_wanted : Option (List ℕ) → Bool → ℕ → List ℕ → List ℕ
sent_wanted (Some _) frame left words =
    codes "the " ++ copy_name left ++ codes " copy of " ++ marked words ++ codes " is owed"
sent_wanted None frame left words = no_message_cause frame

abbrev pub begins_with : List ℕ → List ℕ → Bool
begins_with text word = starts_with (λ a b. a == b) text word

-- why this is granted
abbrev pub grant_cause : List ℕ → List ℕ
grant_cause grant =
    if begins_with grant (codes "search") then codes ", since the search has windows left"
    else if begins_with grant (codes "range") then codes ", the least ONU-ID of a ranging unit"
    else codes ", the operating unit whose turn it is"

-- why nothing is granted: a frame that sends was to send when it began, and then a port decides nothing
abbrev pub no_grant_cause : Bool → Option (List ℕ) → List ℕ
no_grant_cause false sent = codes "none, since only a frame grants"
no_grant_cause true (Some _) = codes "none, since a message was owed"
no_grant_cause true None = codes "none, since a window was open, a search begins, or no unit is to be asked"

-- what is granted
abbrev pub grant_wanted : Spelled → Option (List ℕ) → List ℕ
grant_wanted said None = no_grant_cause (is_frame said) said.sent
grant_wanted said (Some grant) = marked grant ++ grant_cause grant

abbrev pub alarm_wanted : Option (List ℕ) → List ℕ
alarm_wanted None = codes "none"
alarm_wanted (Some alarm) = marked alarm

-- why a line is not the one that is said in its place, by the difference: the messages that were sent are told in these
-- words, and so many copies are owed behind it
abbrev pub part_reason : Difference → ℕ → Spelled → Spelled → List ℕ → List ℕ → List ℕ
part_reason Blank left given said wanted told = []
part_reason Port left given said wanted told = codes "the port: " ++ marked said.port ++ not_text given.port
part_reason Number left given said wanted told =
    codes "the number: " ++ marked said.number ++ codes " is next" ++ not_text given.number
part_reason Event left given said wanted told =
    codes "the event: it is spelled " ++ marked said.event ++ not_text given.event
part_reason Reply left given said wanted told = codes "the reply: " ++ marked said.reply ++ not_text given.reply
part_reason Sent left given said wanted told =
    codes "the message sent: " ++ sent_wanted said.sent (is_frame said) left wanted ++ not_words given.sent told
part_reason Grant left given said wanted told =
    codes "the grant: " ++ grant_wanted said said.grant ++ not_part given.grant
part_reason Alarm left given said wanted told =
    codes "the alarm: " ++ alarm_wanted said.alarm ++ not_part given.alarm

abbrev pub reason_by : Difference → ℕ → List ℕ → List ℕ → List ℕ → List ℕ → List ℕ
reason_by Blank left given said wanted told = blank_reason given said
reason_by difference left given said wanted told =
    part_reason difference left (spelled given) (spelled said) wanted told

-- the same, where both messages have the same words by their codes as they are spelled
abbrev pub reason_for : Difference → ℕ → List ℕ → List ℕ → List ℕ → List ℕ → List ℕ
reason_for difference left given said wanted told =
    if bytes_eq wanted told
    then reason_by difference left given said (or_empty (spelled said).sent) (or_empty (spelled given).sent)
    else reason_by difference left given said wanted told

-- what would be right of a code whose check octet is wrong under the mask
abbrev pub octets_remark : Mask → List ℕ → List ℕ
octets_remark mask octets =
    if wanted_check mask octets == slice_index octets 12 then []
    else codes " (crc" ++ check_note mask octets ++ codes ")"

-- the same of a text that should be a code, by what its digits say
abbrev pub code_remark : Mask → Result (List ℕ) FromHexError → List ℕ
code_remark mask (Ok octets) = octets_remark mask octets
code_remark mask (Err fault) = []

-- behind the reason, where another message was sent than this text
abbrev pub sent_remark : Difference → Mask → List ℕ → List ℕ
sent_remark Blank mask part = []
sent_remark Port mask part = []
sent_remark Number mask part = []
sent_remark Event mask part = []
sent_remark Reply mask part = []
sent_remark Sent mask part = code_remark mask (decode_sized part 13)
sent_remark Grant mask part = []
sent_remark Alarm mask part = []

-- the same, with what would be right of a wrong check octet
abbrev pub full_reason : Difference → Mask → ℕ → List ℕ → List ℕ → List ℕ → List ℕ → List ℕ
full_reason difference mask left given said wanted told =
    reason_for difference left given said wanted told ++ sent_remark difference mask (or_empty (spelled given).sent)

-- the line is not the one that is said in its place for this reason, where so many copies are owed behind what was sent
abbrev pub IsReason : Mask → ℕ → List ℕ → List ℕ → List ℕ → Type 0
IsReason mask left given said reason =
    (wanted : List ℕ) × (told : List ℕ)
    × TellsMessage mask (or_empty (spelled said).sent) wanted
    × TellsMessage mask (or_empty (spelled given).sent) told
    × (reason ≡ full_reason (difference_of given said) mask left given said wanted told)
