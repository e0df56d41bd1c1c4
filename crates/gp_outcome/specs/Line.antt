-- What became of a file, as a line (this profile's own rule).
use Rattle.std.specs.Prelude.{ℕ, ◌==◌, Bool, true, List, [], ◌∷◌, ◌++◌, Option, None, Some, codes, if◌then◌else◌, string_bytes}
use Rattle.gp_outcome.specs.declared.outcome.Outcome.{Outcome}
use Rattle.gp_outcome.specs.declared.outcome.Outcome.TheVariants as outcomes
use Rattle.gp_outcome.specs.declared.verdict.Verdict.{Verdict}
use Rattle.gp_outcome.specs.Words.{why_text}

-- a folder's name is empty, or ends in a slash
abbrev pub is_joined : List ℕ → Bool
is_joined [] = true
is_joined (octet ∷ []) = octet == 47
is_joined (octet ∷ next ∷ others) = is_joined (next ∷ others)

-- the path of a file in a folder; the folder's own where the file has no name
abbrev pub path_of : List ℕ → List ℕ → List ℕ
path_of folder [] = folder
path_of folder (octet ∷ file) =
    if is_joined folder then folder ++ octet ∷ file else folder ++ codes "/" ++ octet ∷ file

-- the path of a verdict's file
abbrev pub path_in : Verdict → List ℕ
path_in verdict = path_of (string_bytes verdict.folder) (string_bytes verdict.file)

-- a line for one that failed
abbrev pub line_by : List ℕ → Outcome → Option (List ℕ)
line_by path (outcomes.Failed failure) = Some (path ++ codes ": " ++ why_text failure ++ codes "\n")
line_by path outcome = None

abbrev pub line_of : Verdict → Option (List ℕ)
line_of verdict = line_by (path_in verdict) verdict.outcome
