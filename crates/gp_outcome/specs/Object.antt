-- What became of a file, as a JSON object on a line of its own (this profile's own rule).
use Rattle.std.specs.Prelude.{ℕ, List, [], ◌++◌, codes, decimal, if◌then◌else◌}
use Rattle.std.specs.Str.{is_utf8}
use Rattle.gp_json.specs.Spelling.{quoted, quoted_utf8}
use Rattle.gp_compare.specs.declared.difference.Difference.{Difference}
use Rattle.gp_compare.specs.declared.shown.ShownLine.{ShownLine}
use Rattle.gp_outcome.specs.declared.outcome.Failure.{Failure}
use Rattle.gp_outcome.specs.declared.outcome.Failure.TheVariants as failures
use Rattle.gp_outcome.specs.declared.outcome.Outcome.{Outcome}
use Rattle.gp_outcome.specs.declared.outcome.Outcome.TheVariants as outcomes
use Rattle.gp_outcome.specs.declared.verdict.Verdict.{Verdict}
use Rattle.gp_outcome.specs.Line.{path_in}
use Rattle.gp_outcome.specs.Words.{is_no_line, why_text}

-- a text; where it is none in UTF-8, each octet of it that is no printable ASCII by its number
unfoldable pub text_of : List ℕ → List ℕ
text_of octets = if is_utf8 octets then quoted_utf8 octets else quoted octets

-- a line that is shown; null where there is no such line
abbrev pub shown_value : ShownLine → List ℕ
shown_value line = if is_no_line line then codes "null" else quoted line.octets.items

-- where two texts differ, and the line on both sides
abbrev pub difference_fields : Difference → List ℕ
difference_fields difference =
    codes ",\"line\":" ++ decimal difference.line ++ codes ",\"octet\":" ++ decimal difference.octet
    ++ codes ",\"expected\":" ++ shown_value difference.expected ++ codes ",\"got\":" ++ shown_value difference.got

-- where it differs, where it does
abbrev pub fields_if : Failure → List ℕ
fields_if (failures.OtherTrace difference) = difference_fields difference
fields_if (failures.OtherFault difference) = difference_fields difference
fields_if failure = []

-- something did not pass, for this
unfoldable pub why_fields : List ℕ → List ℕ
why_fields why = codes ",\"ok\":false,\"outcome\":\"failed\",\"why\":" ++ text_of why

abbrev pub failure_fields : Failure → List ℕ
failure_fields failure = why_fields (why_text failure) ++ fields_if failure

-- it passed, and its trace has so many lines
unfoldable pub passed_fields : ℕ → List ℕ
passed_fields lines = codes ",\"ok\":true,\"outcome\":\"passed\",\"lines\":" ++ decimal lines

-- what became of a file
abbrev pub outcome_fields : Outcome → List ℕ
outcome_fields (outcomes.Passed lines) = passed_fields lines
outcome_fields outcomes.Refused = codes ",\"ok\":true,\"outcome\":\"refused\""
outcome_fields outcomes.Written = codes ",\"ok\":true,\"outcome\":\"written\""
outcome_fields (outcomes.Failed failure) = failure_fields failure

abbrev pub object_of : Verdict → List ℕ
object_of verdict =
    codes "{\"file\":" ++ text_of (path_in verdict) ++ outcome_fields verdict.outcome ++ codes "}\n"
