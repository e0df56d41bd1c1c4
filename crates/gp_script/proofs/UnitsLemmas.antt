-- Units read one after another.
use Rattle.std.proofs.Common.{◌≡◌, List, [], ◌∷◌, ◌++◌, length, None, Result, Ok, Err, refl, sym, ap}
use Rattle.toml.specs.Data.{Data, string, integer, float, boolean, datetime, array, table, Members, Items, item, as_table}
use Rattle.gp_script.specs.declared.script.ScriptUnit.{ScriptUnit}
use Rattle.gp_script.specs.declared.place.Key.TheVariants as key
use Rattle.gp_script.specs.declared.place.TablePlace.TheVariants as places
use Rattle.gp_script.specs.Fault.{◌>>=◌}
use Rattle.gp_script.specs.Mistake.{TableMistakeView, inside, in_table, no_table}
use Rattle.gp_script.specs.Unit.{unit_of, units_from}

-- the walk ends at what is no table,
pub no_unit : (before : List ScriptUnit) (d : Data) (rest : Items) → as_table d ≡ None → units_from before (item d rest) ≡ Err (no_table key.Unit (length before))
unfolding units_from
no_unit before (string s) rest none = refl
no_unit before (integer z) rest none = refl
no_unit before (float x) rest none = refl
no_unit before (boolean b) rest none = refl
no_unit before (datetime t) rest none = refl
no_unit before (array items) rest none = refl
no_unit before (table ms) rest none = cc none

-- and at a table that is refused,
pub bad_unit : (before : List ScriptUnit) (ms : Members) (rest : Items) (m : TableMistakeView) → unit_of ms ≡ Err m
    → units_from before (item (table ms) rest) ≡ Err (inside (places.Unit (length before)) m)
unfolding units_from
bad_unit before ms rest m says = simp says

-- and goes on behind one that is read
pub next_unit : (before : List ScriptUnit) (ms : Members) (rest : Items) (unit : ScriptUnit) → unit_of ms ≡ Ok unit
    → units_from (before ++ unit ∷ []) rest ≡ units_from before (item (table ms) rest)
unfolding units_from
next_unit before ms rest unit says = ap (λ (r : Result ScriptUnit TableMistakeView). in_table (places.Unit (length before)) r >>= (λ u. units_from (before ++ u ∷ []) rest)) (sym says)
