-- The keys of a table against the keys that it may have.
use Rattle.std.proofs.Common.{◌≡◌, ℕ, Bool, true, false, not, cond, List, [], ◌∷◌, Option, Some, map, option_map, refl}
use Rattle.std.specs.List.{find}
use Rattle.std.specs.Prelude.{String, string_bytes}
use Rattle.std.specs.declared.alloc.Global.{Global}
use Rattle.toml.specs.View.{members_view}
use Rattle.toml.specs.declared.value.Value.{Value}
use Rattle.gp_script.specs.declared.place.Key.{Key}
use Rattle.gp_script.specs.Keys.{is_one_of, other_key}

first_other : (b : Bool) (name : String Global) (o : Option (List ℕ)) (found : Option (String Global)) → o ≡ option_map string_bytes found
    → cond b o (Some (string_bytes name)) ≡ option_map string_bytes (cond (not b) (Some name) found)
first_other true name o found h = h
first_other false name o found h = refl

-- the first other key is the first entry that isn't one of them
pub other_key_view : (keys : List Key) (entries : List (String Global × Value))
    → other_key keys (members_view entries) ≡ option_map string_bytes (find (λ name. not (is_one_of keys (string_bytes name))) (map (λ e. e.0) entries))
other_key_view keys [] = refl
other_key_view keys (e ∷ es) = first_other (is_one_of keys (string_bytes e.0)) e.0 _ _ (other_key_view keys es)
