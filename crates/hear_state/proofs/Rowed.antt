-- Rows, each changed by a function.
use Rattle.std.proofs.Common.{◌≡◌, ℕ, suc, ◌<◌, List, [], ◌∷◌, length, map, get_or, refl, ap, ◌∙◌, arith}
use Rattle.hear_state.specs.declared.facts.Fact.TheVariants as fact
use Rattle.hear_state.specs.declared.rows.Row.{Row}
use Rattle.hear_state.specs.declared.rows.Row.TheVariants as row
use Rattle.hear_state.specs.Rows.{popped_up_row}

-- where each is as the function leaves it the list is, too
pub all_done : {X : Type 0} (f : X → X) (d : X) (xs : List X) → ((i : ℕ) → i < length xs → f (get_or xs i d) ≡ get_or xs i d) → map f xs ≡ xs
all_done f d [] h = refl
all_done f d (x ∷ xs) h = ap (λ y. y ∷ map f xs) (h 0 (omega arith)) ∙ ap (λ ys. x ∷ ys) (all_done f d xs (λ i less. h (suc i) (omega arith)))

pub popped_up_twice : (r : Row) → popped_up_row (popped_up_row r) ≡ popped_up_row r
popped_up_twice row.Unheard = refl
popped_up_twice row.Nobodys = refl
popped_up_twice (row.Of serial fact.Unknown answers) = refl
popped_up_twice (row.Of serial fact.Nothing answers) = refl
popped_up_twice (row.Of serial (fact.Is delay) answers) = refl
