use Rattle.std.proofs.Common.{◌≡◌, map, take}
use Rattle.std.specs.List.{flat_map}
use Rattle.gp_folder.specs.Folder.{case_in, case_view}
use Rattle.gp_folder.proofs.listing.cases_of.Given as goal

abbrev pub invariant-files : goal.invariant-files
invariant-files l = map case_view l.cases.items ≡ flat_map (case_in l.files) (take l.file-index l.files)
