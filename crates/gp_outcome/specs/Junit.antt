-- What became of the files of a folder, as a suite of JUnit's XML (this profile's own choice of its elements).
use Rattle.std.specs.Prelude.{ℕ, ◌+◌, ◌-◌, ◌^◌, ◌==◌, nat_lt, List, [], ◌∷◌, ◌++◌, codes, decimal, if◌then◌else◌, min, string_bytes}
use Rattle.std.specs.List.{flat_map}
use Rattle.gp_outcome.specs.declared.outcome.Outcome.{Outcome}
use Rattle.gp_outcome.specs.declared.outcome.Outcome.TheVariants as outcomes
use Rattle.gp_outcome.specs.declared.tally.Tally.{Tally}
use Rattle.gp_outcome.specs.declared.verdict.Verdict.{Verdict}
use Rattle.gp_outcome.specs.Tally.{counted, nothing}
use Rattle.gp_outcome.specs.Words.{why_text}

-- an octet within an attribute: XML knows no other control character than these three, not even by its number
abbrev pub escaped : ℕ → List ℕ
escaped octet =
    if octet == 38 then codes "&amp;" else if octet == 60 then codes "&lt;" else if octet == 62 then codes "&gt;"
    else if octet == 34 then codes "&quot;" else if octet == 9 then codes "&#9;" else if octet == 10 then codes "&#10;"
    else if octet == 13 then codes "&#13;" else if nat_lt octet 32 then codes "?" else octet ∷ []

-- an attribute
abbrev pub attribute : List ℕ → List ℕ → List ℕ
attribute name value = codes " " ++ name ++ codes "=\"" ++ flat_map escaped value ++ codes "\""

-- what stands in the test case of a file, and its end
abbrev pub outcome_text : Outcome → List ℕ
outcome_text (outcomes.Passed lines) = codes "/>\n"
outcome_text outcomes.Refused = codes "/>\n"
outcome_text outcomes.Written = codes ">\n<skipped message=\"its .trace was written\"/>\n</testcase>\n"
outcome_text (outcomes.Failed failure) =
    codes ">\n<failure" ++ attribute (codes "message") (why_text failure) ++ codes "/>\n</testcase>\n"

-- the name of a test case: that of the file; the folder's own where the file has no name
abbrev pub case_name : List ℕ → List ℕ → List ℕ
case_name folder [] = folder
case_name folder (octet ∷ file) = octet ∷ file

-- the test case of a file: its class is the folder
unfoldable pub case_text : Verdict → List ℕ
case_text verdict =
    codes "<testcase" ++ attribute (codes "classname") (string_bytes verdict.folder)
    ++ attribute (codes "name") (case_name (string_bytes verdict.folder) (string_bytes verdict.file))
    ++ outcome_text verdict.outcome

-- how many files there are, how many failed, and of how many the trace was written
abbrev pub up_to_64_bits : ℕ → ℕ
up_to_64_bits n = min n (2 ^ 64 - 1)

abbrev pub counts_text : Tally → List ℕ
counts_text tally =
    attribute (codes "tests") (decimal (up_to_64_bits (tally.passed + tally.written + tally.failed)))
    ++ attribute (codes "failures") (decimal tally.failed) ++ attribute (codes "skipped") (decimal tally.written)

-- these are counted, one after another
abbrev pub all_counted : Tally → List Verdict → Tally
all_counted tally [] = tally
all_counted tally (verdict ∷ verdicts) = all_counted (counted tally verdict.outcome) verdicts

-- how the suite of a folder begins, with the sum of its test cases
unfoldable pub suite_begin : List ℕ → Tally → List ℕ
suite_begin folder tally =
    codes "<testsuite" ++ attribute (codes "name") folder ++ counts_text tally ++ codes ">\n"

-- the suite of a folder
abbrev pub suite_text : List ℕ → List Verdict → List ℕ
suite_text folder verdicts =
    suite_begin folder (all_counted nothing verdicts) ++ flat_map case_text verdicts ++ codes "</testsuite>\n"

-- how JUnit's XML begins, with the sum of all suites
abbrev pub begin_text : Tally → List ℕ
begin_text tally =
    codes "<?xml version=\"1.0\" encoding=\"UTF-8\"?>\n<testsuites" ++ counts_text tally ++ codes ">\n"
