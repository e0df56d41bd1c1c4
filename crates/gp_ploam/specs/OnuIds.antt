-- The ONU-IDs that mean something (G.984.3, clause 9: 254 is reserved).
use Rattle.std.specs.Prelude.{ℕ}

-- the last ONU-ID that a unit may have
abbrev pub last_onu : ℕ
last_onu = 253

-- how many ONU-IDs units may have: from 0 to the last one
abbrev pub onu_ids : ℕ
onu_ids = 254

-- in place of an ONU-ID: every unit, or one that has none yet
abbrev pub broadcast_onu : ℕ
broadcast_onu = 255
