-- A field behind others.
use Rattle.std.proofs.Common.{◌≡◌, ℕ, suc, List, Option, Some, ap, ◌∙◌}
use Rattle.line_columns.specs.Fields.{◌>>=◌, behind_field, field}

-- past one field there is one less before it
pub field_next : (separator many fewer : ℕ) (text rest : List ℕ) → many ≡ suc fewer → behind_field separator text ≡ Some rest
    → field separator many text ≡ field separator fewer rest
field_next separator many fewer text rest one behind =
    ap (λ (n : ℕ). field separator n text) one ∙ ap (λ (o : Option (List ℕ)). o >>= field separator fewer) behind
