-- The equalization delay (G.984.3, clause 10).
use Rattle.std.specs.Prelude.{ℕ, ◌-◌, nat_lt, if◌then◌else◌, Option, None, Some}

-- what a round-trip delay leaves of the equalized round-trip delay, or none for a unit that is farther away
abbrev pub equalization_delay : ℕ → ℕ → Option ℕ
equalization_delay equalized round_trip = if nat_lt equalized round_trip then None else Some (equalized - round_trip)
