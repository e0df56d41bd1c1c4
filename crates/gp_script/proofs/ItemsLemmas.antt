-- What a list of items shows.
use Rattle.std.proofs.Common.{◌≡◌, ℕ, ◌+◌, Bool, true, false, not, cond, List, [], ◌∷◌, Option, None, Some, option_map, length, suc, refl, sym, ap, ◌∙◌, arith}
use Rattle.std.specs.List.{position, prefix_len}
use Rattle.std.specs.Option.{is_some}
use Rattle.std.specs.Prelude.{nat_lt}
use Rattle.std.proofs.lemmas.Bool.Decides.{nat_tests}
use Rattle.toml.specs.Data.{Data, string, integer, float, boolean, datetime, array, table, Items, item, as_str, as_table}
use Rattle.toml.specs.View.{items_view, view}
use Rattle.toml.specs.declared.value.Value.{Value}
use Rattle.std.proofs.lemmas.Bool.{eqb-true}
use Rattle.std.proofs.lemmas.List.{nil_from_length}
use Rattle.gp_script.specs.Keys.{other_than_table, other_than_text, is_empty, item_count}

pub item_count_view : (vs : List Value) → item_count (items_view vs) ≡ length vs
item_count_view [] = refl
item_count_view (v ∷ vs) = omega (arith, item_count_view vs)

-- there are none where none is seen
pub none_by_view : (vs : List Value) → is_empty (items_view vs) ≡ true → vs ≡ []
none_by_view vs none = nil_from_length vs (sym (item_count_view vs) ∙ eqb-true (item_count (items_view vs)) 0 none)

further : (b : Bool) (n len : ℕ) → nat_lt n len ≡ b → option_map (λ place. place + 1) (cond b (Some n) None) ≡ cond (nat_lt (1 + n) (suc len)) (Some (1 + n)) None
further true n len h = grind (arith, nat_tests)
further false n len h = grind (arith, nat_tests)

-- the place in a list with one item more before it
next_place : (b : Bool) (n len : ℕ) (rest : Option ℕ) → rest ≡ cond (nat_lt n len) (Some n) None
    → cond b (option_map (λ place. place + 1) rest) (Some 0) ≡ cond (nat_lt (cond (not (not b)) (1 + n) 0) (suc len)) (Some (cond (not (not b)) (1 + n) 0)) None
next_place true n len rest h = ap (option_map (λ place. place + 1)) h ∙ further (nat_lt n len) n len refl
next_place false n len rest h = grind (arith, nat_tests)

table_item : (d : Data) (ds : Items) → other_than_table (item d ds) ≡ cond (is_some (as_table d)) (option_map (λ place. place + 1) (other_than_table ds)) (Some 0)
table_item (string s) ds = refl
table_item (integer z) ds = refl
table_item (float x) ds = refl
table_item (boolean b) ds = refl
table_item (datetime t) ds = refl
table_item (array items) ds = refl
table_item (table ms) ds = refl

pub other_than_table_view : (vs : List Value) → other_than_table (items_view vs) ≡ position (λ v. not (is_some (as_table (view v)))) vs
other_than_table_view [] = refl
other_than_table_view (v ∷ vs) =
    table_item (view v) (items_view vs)
    ∙ next_place (is_some (as_table (view v))) (prefix_len (λ v. not (not (is_some (as_table (view v))))) vs) (length vs) _ (other_than_table_view vs)

text_item : (d : Data) (ds : Items) → other_than_text (item d ds) ≡ cond (is_some (as_str d)) (option_map (λ place. place + 1) (other_than_text ds)) (Some 0)
text_item (string s) ds = refl
text_item (integer z) ds = refl
text_item (float x) ds = refl
text_item (boolean b) ds = refl
text_item (datetime t) ds = refl
text_item (array items) ds = refl
text_item (table ms) ds = refl

pub other_than_text_view : (vs : List Value) → other_than_text (items_view vs) ≡ position (λ v. not (is_some (as_str (view v)))) vs
other_than_text_view [] = refl
other_than_text_view (v ∷ vs) =
    text_item (view v) (items_view vs)
    ∙ next_place (is_some (as_str (view v))) (prefix_len (λ v. not (not (is_some (as_str (view v))))) vs) (length vs) _ (other_than_text_view vs)
