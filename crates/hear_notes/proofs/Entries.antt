-- The entries of the searches, as the map that contracts see.
use Rattle.std.proofs.Common.{◌≡◌, ℕ, ◌&&◌, Bool, true, false, cond, List, [], ◌∷◌, length, Option, Some, Result, Ok, Err, refl, sym, ap, subst, ◌∙◌}
use Rattle.std.specs.Prelude.{T, OnErr}
use Rattle.std.proofs.lemmas.Cmp.{eq_by_cmp_equiv}
use Rattle.std.specs.BTreeMap.{is_at}
use Rattle.std.specs.FinMap as map
use Rattle.std.specs.FinMap.Entries.{below_all}
use Rattle.std.specs.FinMap.{find, is_sorted, from_sorted, entries-from_sorted, get-from_sorted, get-empty, get-insert, len-entries, same_map}
use Rattle.std.specs.List.{AllByRecursion}
use Rattle.std.specs.List.Sorted.{IsStrictlySortedBy}
use Rattle.std.specs.Map.{keys_of, lookup}
use Rattle.std.specs.Ordering.{eq_by_cmp, is_eq, is_lt}
use Rattle.std.specs.declared.cmp.Ordering.TheVariants.{Less}
use Rattle.gp_ploam.specs.declared.message.Serial.{Serial}
use Rattle.gp_ploam.specs.Serials.{serial_cmp}
use Rattle.gp_ploam.proofs.Serials.{serials_total, serials_exact}

abbrev pub Entries : Type 0
Entries = List (Serial × ℕ)

abbrev pub no_entries : Entries
no_entries = []

-- what is kept of a serial number, as the code looks it up
abbrev pub found : Serial → Entries → Option ℕ
found q es = lookup (is_at (serial_cmp q)) es

-- ---- in order

both : (a b : Bool) → T a → T b → T (a && b)
both true b p q = q
both false b p q = p

below_others : (x : Serial) (es : Entries) → AllByRecursion (λ y. serial_cmp x y ≡ Less) (keys_of es) → T (below_all serial_cmp x es)
below_others x [] h = tt
below_others x (e ∷ es) h = both (is_lt (serial_cmp x e.0)) (below_all serial_cmp x es) (subst (λ o. T (is_lt o)) (sym h.0) tt) (below_others x es h.1)

sorted : (es : Entries) → IsStrictlySortedBy serial_cmp (keys_of es) → T (is_sorted serial_cmp es)
unfolding IsStrictlySortedBy
sorted [] h = tt
sorted (e ∷ es) h = both (below_all serial_cmp e.0 es) (is_sorted serial_cmp es) (below_others e.0 es h.0) (sorted es h.1)

-- ---- the map

find_found : (q : Serial) (es : Entries) → find serial_cmp q es ≡ found q es
find_found q [] = refl
find_found q (e ∷ es) = ap (cond (is_eq (serial_cmp q e.0)) (Some e.1)) (find_found q es)

-- what the map has is what the code finds
pub get_found : (es : Entries) (q : Serial) → IsStrictlySortedBy serial_cmp (keys_of es) → map.get (from_sorted {R = serial_cmp} es) q ≡ found q es
get_found es q ordered = get-from_sorted serial_cmp es q (sorted es ordered) ∙ find_found q es

-- its entries are those that are kept
entries_kept : (es : Entries) → IsStrictlySortedBy serial_cmp (keys_of es) → map.entries (from_sorted {R = serial_cmp} es) ≡ es
entries_kept es ordered = entries-from_sorted serial_cmp es (sorted es ordered)

pub len_kept : (es : Entries) → IsStrictlySortedBy serial_cmp (keys_of es) → map.len (from_sorted {R = serial_cmp} es) ≡ length es
len_kept es ordered = len-entries (from_sorted {R = serial_cmp} es) ∙ ap length (entries_kept es ordered)

-- an entry more, or another value, is the map with that entry
pub inserted : (old new : Entries) (k : Serial) (v : ℕ) → IsStrictlySortedBy serial_cmp (keys_of old) → IsStrictlySortedBy serial_cmp (keys_of new)
    → ((q : Serial) → found q new ≡ cond (is_at (serial_cmp k) q) (Some v) (found q old))
    → from_sorted {R = serial_cmp} new ≡ map.insert (from_sorted old) k v
inserted old new k v before after updates =
    same_map serials_total serials_exact _ _ (λ q.
    get_found new q after ∙ updates q
    ∙ ap (λ b. cond b (Some v) (found q old)) ((eq_by_cmp_equiv serials_total).symm k q)
    ∙ ap (cond (eq_by_cmp serial_cmp q k) (Some v)) (sym (get_found old q before))
    ∙ sym (get-insert serials_total (from_sorted old) k v q))

-- no entry, no serial number
pub none_kept : from_sorted {R = serial_cmp} no_entries ≡ map.empty
none_kept = same_map serials_total serials_exact _ _ (λ q. get-from_sorted serial_cmp no_entries q tt ∙ sym (get-empty serial_cmp q))

-- a fact, where a call failed
pub on_err : {A E : Type 0} {P : Type 0} (r : Result A E) → P → OnErr r P
on_err (Ok x) p = tt
on_err (Err e) p = p
