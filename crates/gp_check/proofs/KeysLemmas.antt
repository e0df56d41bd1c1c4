-- What is told of an unknown key, put together in another order.
use Rattle.std.proofs.Common.{◌≡◌, ℕ, ◌++◌, Bool, false, List, Option, codes, append_assoc, if◌then◌else◌, ap, sym, ◌∙◌}
use Rattle.gp_script.specs.declared.place.Key.{Key}
use Rattle.gp_script.specs.declared.place.TablePlace.{TablePlace}
use Rattle.gp_script.specs.Keys.{is_one_of}
use Rattle.gp_script.specs.Tables.{keys_of}
use Rattle.gp_check.specs.Keys.{is_of_top, keys_text, meant, meant_text, unknown_key_text}
use Rattle.gp_check.specs.Words.{unknown_text}

four : (a b c d : List ℕ) → ((a ++ b) ++ c) ++ d ≡ a ++ (b ++ (c ++ d))
four a b c d = simp append_assoc

-- the text of a key that the table may not have in any form
pub unknown_told : (table : TablePlace) (name : List ℕ) (keys : List Key) (is top : Bool) (m : Option Key) (near there : List ℕ) → keys ≡ keys_of table
    → is ≡ is_one_of keys name → is ≡ false → top ≡ is_of_top name → top ≡ false → m ≡ meant keys name → near ≡ meant_text m → there ≡ keys_text table
    → unknown_key_text table name ≡ codes "unknown key" ++ (near ++ (codes "; there are " ++ there))
unknown_told table name keys is top m near there of_table one other at_top below near_is told there_are =
    ap (λ (b : Bool). if b then codes "unknown key in this form of an event"
    else if is_of_top name then codes "unknown key here; it has to stand before the first table"
    else ((codes "unknown key" ++ meant_text (meant (keys_of table) name)) ++ codes "; there are ") ++ keys_text table)
    (ap (λ (k : List Key). is_one_of k name) (sym of_table) ∙ sym one ∙ other)
    ∙ ap (λ (b : Bool). if b then codes "unknown key here; it has to stand before the first table"
    else ((codes "unknown key" ++ meant_text (meant (keys_of table) name)) ++ codes "; there are ") ++ keys_text table)
    (sym at_top ∙ below)
    ∙ four (codes "unknown key") (meant_text (meant (keys_of table) name)) (codes "; there are ") (keys_text table)
    ∙ ap (λ (z : List ℕ). codes "unknown key" ++ (z ++ (codes "; there are " ++ keys_text table)))
    (sym (told ∙ ap meant_text (near_is ∙ ap (λ (k : List Key). meant k name) of_table)))
    ∙ ap (λ (z : List ℕ). codes "unknown key" ++ (near ++ (codes "; there are " ++ z))) (sym there_are)

-- the line of an unknown key
pub unknown_line : (table : TablePlace) (first second key place told : List ℕ) → first ≡ key → second ≡ key → place ≡ unknown_text table first
    → told ≡ unknown_key_text table second
    → (unknown_text table key ++ codes ": 2 shape, ") ++ unknown_key_text table key ≡ place ++ (codes ": 2 shape, " ++ told)
unknown_line table first second key place told is also at said =
    append_assoc (unknown_text table key) (codes ": 2 shape, ") (unknown_key_text table key)
    ∙ ap (λ (z : List ℕ). z ++ (codes ": 2 shape, " ++ unknown_key_text table key)) (sym (at ∙ ap (unknown_text table) is))
    ∙ ap (λ (z : List ℕ). place ++ (codes ": 2 shape, " ++ z)) (sym (said ∙ ap (unknown_key_text table) also))
