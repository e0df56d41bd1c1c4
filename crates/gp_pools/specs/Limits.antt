-- The limits of the numbers that a port gives to its units: an Alloc-ID has twelve bits, and those up to 255 are
-- default ones (G.984.3, clauses 8 and 9); the quarantine is this profile's own rule.
use Rattle.std.specs.Prelude.{ℕ}

-- the first Alloc-ID that is no default one
abbrev pub first_alloc_id : ℕ
first_alloc_id = 256

-- the last Alloc-ID
abbrev pub last_alloc_id : ℕ
last_alloc_id = 4095

-- the most frames for which a freed ONU-ID is given to no other unit
abbrev pub max_quarantine : ℕ
max_quarantine = 8000
