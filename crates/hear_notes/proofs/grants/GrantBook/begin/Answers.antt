use Rattle.std.proofs.Common.{refl, ap, map as list_map, ◌∙◌}
use Rattle.std.specs.FinMap as map
use Rattle.gp_ploam.specs.Serials.{serial_cmp}
use Rattle.hear_notes.specs.Grants.{granted_of}
use Rattle.hear_notes.proofs.grants.GrantBook.begin.Goals as goal

pub returns : goal.returns
returns c =
    record {
      kept = ap (list_map granted_of) c.new.ensures;
      count = refl;
      lost = refl;
      searched = λ serial. ap (λ m. map.get m serial) c.new-2.ensures ∙ map.get-empty serial_cmp serial;
    }
