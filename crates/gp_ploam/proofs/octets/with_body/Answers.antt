use Rattle.std.proofs.Common.{ℕ, List, ◌∷◌, ap, sym, ◌∙◌, append-nil}
use Rattle.gp_ploam.proofs.Rows.{written-exact}
use Rattle.gp_ploam.proofs.octets.with_body.Goals as goal

pub returns : goal.returns
returns c =
    ap (λ (r : List ℕ). c.args.octet1 ∷ c.args.id ∷ r) (append-nil c.copy_from_slice.new.self ∙ c.copy_from_slice.ensures.after ∙ sym (written-exact c.args.body))
