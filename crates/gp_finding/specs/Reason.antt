-- How the reason why a rule is broken reads (this profile's own rule): numbers in decimal, in bit times where they are
-- delays.
use Rattle.std.specs.Prelude.{ℕ, ◌==◌, if◌then◌else◌, List, [], ◌∷◌, ◌++◌, codes, decimal}
use Rattle.hex.specs.Hex.{encode_lower}
use Rattle.gp_serial.specs.Spelling.{text_of_serial}
use Rattle.gp_decode.specs.Lines.{mask_text}
use Rattle.gp_finding.specs.declared.why.Why.{Why}
use Rattle.gp_finding.specs.declared.why.Why.TheVariants as why

-- so many copies of a message are missing
abbrev pub missing_text : ℕ → List ℕ
missing_text count =
    if count == 1 then codes "1 copy of the message before is missing"
    else decimal count ++ codes " copies of the message before are missing"

abbrev pub reason_text : Why → List ℕ
reason_text why.Nothing = []
reason_text (why.RightUnder mask) = codes "right under mask " ++ mask_text mask
reason_text (why.Wanted octet) = encode_lower (octet ∷ []) ++ codes " should stand"
reason_text (why.Missing count) = missing_text count
reason_text why.OnuRange = codes "ONU-IDs are 0 to 253"
reason_text why.AllocRange = codes "a unit's further Alloc-IDs begin at 256"
reason_text why.Disabled = codes "it is disabled"
reason_text why.Unasked = codes "it didn't ask"
reason_text (why.Held onu serial) = decimal onu ++ codes " is of " ++ text_of_serial serial
reason_text (why.Holds onu) = codes "it holds " ++ decimal onu
reason_text (why.Nobody onu) = codes "nobody holds " ++ decimal onu
reason_text (why.Unheard onu) = codes "its serial number was not heard with " ++ decimal onu
reason_text (why.Unanswered delay) = codes "no answer had a delay of " ++ decimal delay
reason_text (why.Equalized delay) = codes "the equalized delay is " ++ decimal delay
reason_text why.Unranged = codes "it has no delay yet"
reason_text (why.Owned alloc onu) = decimal alloc ++ codes " is of " ++ decimal onu
reason_text (why.Unowned alloc) = codes "nobody has " ++ decimal alloc
reason_text (why.Undelayed onu) = decimal onu ++ codes " has no delay yet"
reason_text why.Untold = codes "none was sent to it"
reason_text (why.Ranged ranged delay) =
    codes "it was ranged with " ++ decimal ranged ++ codes ", its delay is " ++ decimal delay
