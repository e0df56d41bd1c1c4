-- What stands in a list of values at an index.
use Rattle.std.proofs.Common.{◌≡◌, ℕ, ◌+◌, ◌<◌, ◌≤◌, List, length, drop, get_or, Some, sym, ap, ◌∙◌}
use Rattle.std.proofs.lemmas.List.{drop_all}
use Rattle.toml.proofs.Lines.{data_of_table}
use Rattle.toml.proofs.Views.{items_view-drop}
use Rattle.toml.specs.Data.{Data, table, Members, item, no_items, as_table}
use Rattle.toml.specs.View.{items_view, view}
use Rattle.toml.specs.declared.value.Value.{Value}

-- what is seen from an index on is the value there, and what is behind it
pub item_at : (tables : List Value) (i : ℕ) (v : Value) → i < length tables → v ≡ get_or tables i v
    → items_view (drop i tables) ≡ item (view v) (items_view (drop (i + 1) tables))
item_at tables i v here is = items_view-drop tables i v here ∙ ap (λ (t : Value). item (view t) (items_view (drop (i + 1) tables))) (sym is)

-- the same of a value that is a table
pub table_at : (tables : List Value) (i : ℕ) (v : Value) (ms : Members) → i < length tables → v ≡ get_or tables i v → as_table (view v) ≡ Some ms
    → items_view (drop i tables) ≡ item (table ms) (items_view (drop (i + 1) tables))
table_at tables i v ms here is says = item_at tables i v here is ∙ ap (λ (d : Data). item d (items_view (drop (i + 1) tables))) (data_of_table (view v) ms says)

-- nothing is seen from the end on
pub no_more : (tables : List Value) (i : ℕ) → length tables ≤ i → items_view (drop i tables) ≡ no_items
no_more tables i past = ap items_view (drop_all i tables past)
