-- What is told as JSON of a text that is the trace of no run: an object on a line of its own (this profile's own rule).
use Rattle.std.specs.Prelude.{ℕ, List, [], ◌++◌, Option, None, Some, codes, decimal}
use Rattle.gp_json.specs.Spelling.{quoted}
use Rattle.gp_verify.specs.declared.verdict.Verdict.{Verdict}
use Rattle.gp_verify.specs.declared.verdict.Verdict.TheVariants as verdict

-- what is wrong with a line, in the words of standard error
abbrev pub kind_of : Verdict → List ℕ
kind_of verdict.Follows = codes "not a run"
kind_of verdict.NotALine = codes "no line of a trace"
kind_of verdict.NoPort = codes "no such port"
kind_of verdict.WrongNumber = codes "not the next number"
kind_of verdict.NotAStep = codes "not a run"
kind_of verdict.TooLong = codes "line too long"

-- how the object of a line begins, by what is wrong with it and its number
abbrev pub object_begun : List ℕ → ℕ → List ℕ
object_begun kind line =
    codes "{\"run\":false,\"kind\":\"" ++ kind ++ codes "\",\"line\":" ++ decimal line

-- a field that is a text, behind another field: octets that are no printable ASCII stand by their numbers
abbrev pub text_field : List ℕ → List ℕ → List ℕ
text_field name text = codes ",\"" ++ name ++ codes "\":" ++ quoted text

-- one that may be left out
abbrev pub text_field_if : List ℕ → Option (List ℕ) → List ℕ
text_field_if name None = []
text_field_if name (Some text) = text_field name text

-- a line in whose place nothing is said, and the reason
abbrev pub line_object : Verdict → ℕ → List ℕ → List ℕ → List ℕ
line_object verdict line text reason =
    object_begun (kind_of verdict) line ++ text_field (codes "text") text ++ text_field (codes "why") reason
    ++ codes "}\n"

-- a line, the one that the machine says in its place, whether another free number would do there, and the reason
abbrev pub both_object : Verdict → ℕ → List ℕ → List ℕ → Option (List ℕ) → List ℕ → List ℕ
both_object verdict line text machine choice reason =
    object_begun (kind_of verdict) line ++ text_field (codes "text") text ++ text_field (codes "machine") machine
    ++ text_field_if (codes "choice") choice ++ text_field (codes "why") reason ++ codes "}\n"
