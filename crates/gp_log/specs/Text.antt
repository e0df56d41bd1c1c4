-- The line of a log that is written (this profile's own rule).
use Rattle.std.specs.Prelude.{ℕ, ◌*◌, ◌<◌, ◌≤◌, ◌^◌, List, [], ◌++◌, Option, None, Some, codes, decimal, ⊤}
use Rattle.hex.specs.Hex.{encode_lower}
use Rattle.gp_ranging.specs.declared.grant.Grant.{Grant}
use Rattle.gp_ranging.specs.declared.grant.Grant.TheVariants as grants
use Rattle.gp_lines.specs.Spelling.{last_port}
use Rattle.gp_lines.specs.Told.{AreOctets}
use Rattle.gp_log.specs.declared.said.Said.{Said}
use Rattle.gp_log.specs.declared.said.Said.TheVariants as said
use Rattle.gp_log.specs.Time.{frame_time}

-- a delay behind a code, where it was measured
abbrev pub delay_text : Option ℕ → List ℕ
delay_text None = []
delay_text (Some delay) = codes " " ++ decimal delay

abbrev pub grant_text : Grant → List ℕ
grant_text grants.Search = codes "grant search"
grant_text (grants.Range onu) = codes "grant range " ++ decimal onu
grant_text (grants.Poll onu) = codes "grant poll " ++ decimal onu

-- what was said, its code in lower-case digits
abbrev pub said_text : Said → List ℕ
said_text (said.Down octets) = codes "down " ++ encode_lower octets
said_text (said.Up octets delay) = codes "up " ++ encode_lower octets ++ delay_text delay
said_text (said.Grant grant) = grant_text grant

-- the port, the time in frames, and what was said
unfoldable pub entry_text : ℕ → ℕ → Said → List ℕ
entry_text port frames said = decimal port ++ codes " " ++ decimal frames ++ codes " " ++ said_text said

abbrev pub IsDelay : Option ℕ → Type 0
IsDelay None = ⊤
IsDelay (Some delay) = delay < 2 ^ 32

abbrev pub IsOctetGrant : Grant → Type 0
IsOctetGrant grants.Search = ⊤
IsOctetGrant (grants.Range onu) = onu < 256
IsOctetGrant (grants.Poll onu) = onu < 256

-- its fields are what their types hold
abbrev pub CanBeSaid : Said → Type 0
CanBeSaid (said.Down octets) = AreOctets 13 octets
CanBeSaid (said.Up octets delay) = AreOctets 13 octets × IsDelay delay
CanBeSaid (said.Grant grant) = IsOctetGrant grant

-- what can be written and read back: a time of so many frames that 64 bits hold its nanoseconds
pub record CanBeWritten (port frames : ℕ) (said : Said) : Type 0 where
  pub near : port ≤ last_port
  pub fits : frames * frame_time < 2 ^ 64
  pub can : CanBeSaid said
