-- Which files of a folder belong together (this profile's own rule).
use Rattle.std.specs.Prelude.{ℕ, Bool, true, false, List, [], ◌∷◌, ◌++◌, Option, None, Some, if◌then◌else◌, String, string_bytes}
use Rattle.std.specs.Global.{Global}
use Rattle.std.specs.List.{flat_map, list_any}
use Rattle.gp_folder.specs.declared.case.Beside.{Beside}
use Rattle.gp_folder.specs.declared.case.Beside.TheVariants as besides
use Rattle.gp_folder.specs.declared.case.Case.{Case}
use Rattle.gp_folder.specs.declared.listing.Stray.{Stray}
use Rattle.gp_folder.specs.declared.part.Part.{Part}
use Rattle.gp_folder.specs.declared.part.Part.TheVariants as parts
use Rattle.gp_folder.specs.Names.{is_named, stem}

-- the name of a file
abbrev pub FileName : Type 0
FileName = String Global

-- the file of this kind with this name is there
abbrev pub has_part : List FileName → List ℕ → Part → Bool
has_part files name part = list_any (λ file. is_named name (stem part (string_bytes file))) files

-- what stands beside a script, by whether its trace and its list of faults are there
abbrev pub beside_by : Bool → Bool → Beside
beside_by false false = besides.Nothing
beside_by true false = besides.Trace
beside_by false true = besides.Faults
beside_by true true = besides.Both

abbrev pub beside : List FileName → List ℕ → Beside
beside files name = beside_by (has_part files name parts.Trace) (has_part files name parts.Faults)

-- a script, and what stands beside it
pub record CaseView : Type 0 where
  pub name : List ℕ
  pub beside : Beside

abbrev pub case_view : Case → CaseView
case_view case = record { name = string_bytes case.name; beside = case.beside }

-- a file is a case if it is a script
abbrev pub case_named : List FileName → Option (List ℕ) → List CaseView
case_named files None = []
case_named files (Some name) = record { name = name; beside = beside files name } ∷ []

abbrev pub case_in : List FileName → FileName → List CaseView
case_in files file = case_named files (stem parts.Script (string_bytes file))

-- the cases of a folder: each of its scripts, in the order of the files
abbrev pub cases_of : List FileName → List CaseView
cases_of files = flat_map (case_in files) files

-- a file that has no script beside it
pub record StrayView : Type 0 where
  pub part : Part
  pub name : List ℕ

abbrev pub stray_view : Stray → StrayView
stray_view stray = record { part = stray.part; name = string_bytes stray.name }

-- a file of this kind is such a one if there is no script of its name
abbrev pub stray_named : List FileName → Part → Option (List ℕ) → List StrayView
stray_named files part None = []
stray_named files part (Some name) =
    if has_part files name parts.Script then [] else record { part = part; name = name } ∷ []

abbrev pub stray_part : List FileName → Part → FileName → List StrayView
stray_part files part file = stray_named files part (stem part (string_bytes file))

abbrev pub stray_in : List FileName → FileName → List StrayView
stray_in files file = stray_part files parts.Trace file ++ stray_part files parts.Faults file

-- the traces and lists of faults of a folder without a script, in the order of the files
abbrev pub strays_of : List FileName → List StrayView
strays_of files = flat_map (stray_in files) files
