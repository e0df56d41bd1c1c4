-- Which search each serial number answered last (this profile's own rule).
use Rattle.std.specs.Prelude.{◌≡◌, ℕ, ◌&&◌, nat_le, Bool, true, false, None, is_none}
use Rattle.std.specs.FinMap.{FinMap, get, len}
use Rattle.gp_ploam.specs.declared.message.Serial.{Serial}
use Rattle.gp_ploam.specs.Serials.{serial_cmp}
use Rattle.hear_notes.specs.declared.fault.NoteFault.{NoteFault}
use Rattle.hear_notes.specs.declared.fault.NoteFault.TheVariants.{OutOfMemory, Full}

-- from each serial number that answered a search to the last one that it answered
abbrev pub Searches : Type 0
Searches = FinMap serial_cmp ℕ

-- it is new, and of 65,536 it is kept
abbrev pub is_full : Searches → Serial → Bool
is_full searches serial = is_none (get searches serial) && nat_le 65536 (len searches)

-- it is new: there is no memory for it, or no room
abbrev pub FailsFor : Searches → Serial → NoteFault → Type 0
FailsFor searches serial OutOfMemory = (get searches serial ≡ None) × (is_full searches serial ≡ false)
FailsFor searches serial Full = is_full searches serial ≡ true
