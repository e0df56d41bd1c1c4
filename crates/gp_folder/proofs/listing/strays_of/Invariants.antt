use Rattle.std.proofs.Common.{◌≡◌, map, take}
use Rattle.std.specs.List.{flat_map}
use Rattle.gp_folder.specs.Folder.{stray_in, stray_view}
use Rattle.gp_folder.proofs.listing.strays_of.Given as goal

abbrev pub invariant-files : goal.invariant-files
invariant-files l = map stray_view l.strays.items ≡ flat_map (stray_in l.files) (take l.file-index l.files)
