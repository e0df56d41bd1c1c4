use Rattle.std.proofs.Common.{ℕ, List, [], ◌∷◌, ◌++◌, ap, sym, ◌∙◌}
use Rattle.gp_ploam.specs.Row.{Free}
use Rattle.gp_ploam.proofs.Rows.{written-exact_append}
use Rattle.gp_ploam.proofs.octets.with_serial.Goals as goal

pub returns : goal.returns
returns c =
    ap (λ (r : List ℕ). 255 ∷ c.args.id ∷ c.args.octet3 ∷ r) (ap (λ (r : List ℕ). r ++ 0 ∷ []) c.copy_from_slice.ensures.after ∙ sym (written-exact_append c.args.serial.0 (Free 0 ∷ [])))
