-- A finite map with each value changed by a function.
use Rattle.std.specs.Prelude.{map}
use Rattle.std.specs.declared.cmp.Ordering.{Ordering}
use Rattle.std.specs.FinMap.{FinMap, entries, from_sorted}

-- the same keys, with what the function makes of their values
unfoldable pub map_values : {K X Y : Type 0} {R : K → K → Ordering} → (X → Y) → FinMap R X → FinMap R Y
map_values f m = from_sorted (map (λ e. (e.0, f e.1)) (entries m))
