-- Maps that are kept as a value or nothing at each place (this profile's own rule).
-- Inside: no public contract cites this.
use Rattle.std.specs.Prelude.{ℕ, zero, suc, List, length, Option, None, Some, slice_index_or}
use Rattle.std.specs.Ordering.{nat_cmp}
use Rattle.std.specs.FinMap.{FinMap, empty, insert}

-- a value more, where there is one
abbrev pub put_if : {X : Type 0} → Option X → ℕ → FinMap nat_cmp X → FinMap nat_cmp X
put_if None place map = map
put_if (Some value) place map = insert map place value

-- from each of the first places that has a value to the value
unfoldable pub listed : {X : Type 0} → ℕ → List (Option X) → FinMap nat_cmp X
listed zero places = empty
listed (suc count) places = put_if (slice_index_or places count None) count (listed count places)

-- from each place that has a value to the value
abbrev pub map_of : {X : Type 0} → List (Option X) → FinMap nat_cmp X
map_of places = listed (length places) places
