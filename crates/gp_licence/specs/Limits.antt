-- How many licences there may be (this profile's own rule).
use Rattle.std.specs.Prelude.{ℕ}

-- the most licences that a book can have: one for each unit of 16 ports with 254 units each
abbrev pub max_licences : ℕ
max_licences = 4064
