-- How many there were of each outcome (this profile's own rule).
use Rattle.std.specs.Prelude.{ℕ, ◌+◌, ◌-◌, ◌^◌, ◌==◌, Bool, true, false, List, [], ◌++◌, codes, decimal, if◌then◌else◌, min}
use Rattle.gp_outcome.specs.declared.outcome.Outcome.{Outcome}
use Rattle.gp_outcome.specs.declared.outcome.Outcome.TheVariants as outcomes
use Rattle.gp_outcome.specs.declared.tally.Tally.{Tally}

-- something is not as it has to be
abbrev pub is_failed : Outcome → Bool
is_failed (outcomes.Failed failure) = true
is_failed outcome = false

-- one more; no more than 64 bits hold are counted
abbrev pub one_more : ℕ → ℕ
one_more n = min (n + 1) (2 ^ 64 - 1)

-- nothing was counted
abbrev pub nothing : Tally
nothing = record { passed = 0; written = 0; failed = 0 }

-- one more is counted
abbrev pub counted : Tally → Outcome → Tally
counted tally (outcomes.Passed lines) = record tally { passed = one_more tally.passed }
counted tally outcomes.Refused = record tally { passed = one_more tally.passed }
counted tally outcomes.Written = record tally { written = one_more tally.written }
counted tally (outcomes.Failed failure) = record tally { failed = one_more tally.failed }

-- the sum, as a line: of traces that were written it tells where there are any
abbrev pub written_text : ℕ → List ℕ
written_text n = if n == 0 then [] else decimal n ++ codes " written, "

abbrev pub line_of : Tally → List ℕ
line_of tally =
    decimal tally.passed ++ codes " passed, " ++ written_text tally.written ++ decimal tally.failed
    ++ codes " failed\n"

-- the sum, as a JSON object
abbrev pub object_of : Tally → List ℕ
object_of tally =
    codes "{\"passed\":" ++ decimal tally.passed ++ codes ",\"written\":" ++ decimal tally.written
    ++ codes ",\"failed\":"
    ++ decimal tally.failed ++ codes "}\n"
