use Rattle.std.proofs.Common.{◌≡◌, ◌∷◌, ℕ, List, ap, drop, drop-cons, get_or, refl, sym, ◌∙◌, arith}
use Rattle.gp_ploam.proofs.Rows.{agrees_spelled}
use Rattle.gp_ploam.proofs.up.named_from.Goals as goal

pub returns-in-9-clause-row : goal.returns-in-9-clause-row
returns-in-9-clause-row c =
    let octets = c.args.octets.now in
    let third = get_or c.args.octets.now 2 0 in
    let body : third ∷ c.copy_in.result ≡ drop 2 octets = ap (λ (r : List ℕ). third ∷ r) c.copy_in.ensures ∙ sym (drop-cons octets 2 0 (omega arith)) in
    agrees_spelled _ _ (third ∷ c.copy_in.result) octets (omega arith) refl c.in-9.is body
