use Rattle.std.proofs.Common.{◌≡◌, ℕ, List, ◌∷◌, length, ap, ◌∙◌, rules}
use Rattle.gp_ploam.specs.Down.{down_row, IsNamedDown, IsFittingDown}
use Rattle.gp_ploam.proofs.Rows.{written-exact}
use Rattle.gp_ploam.proofs.Proper.{none_found}
use Rattle.gp_ploam.proofs.down.stands_for_itself.Goals as goal

pub returns-in-Other : goal.returns-in-Other
returns-in-Other c =
    let body = c.in-Other.body in
    let long : length c.in-Other.body ≡ 10 = search rules in
    let other = c.in-Other.octet1 ∷ c.in-Other.id ∷ body in
    let octets : c.with_body.result ≡ other =
    c.with_body.ensures ∙ ap (λ (r : List ℕ). c.in-Other.octet1 ∷ c.in-Other.id ∷ r) (written-exact body) in
    let found = c.named_from.ensures in
    rw c.in-Other.is (none_found down_row IsNamedDown IsFittingDown body c.with_body.result other c.named_from.result c.is_none.result long octets found.named found.fitting found.row found.none c.is_none.ensures)
