-- The entries of the admission list, as the map that contracts see.
use Rattle.std.proofs.Common.{◌≡◌, ℕ, ◌+◌, ◌<◌, ◌≤◌, ◌==◌, ◌&&◌, Bool, true, false, cond, List, [], ◌∷◌, length, Option, None, Some, Result, Ok, Err, inl, inr, refl, sym, ap, subst, ◌∙◌, get_or, arith}
use Rattle.std.specs.Prelude.{T, OnErr}
use Rattle.std.proofs.Math.ListN.{set}
use Rattle.std.proofs.lemmas.Bool.{cases_Bool, cases_eq}
use Rattle.std.proofs.lemmas.Bool.Decides.{nat_tests}
use Rattle.std.proofs.lemmas.Cmp.{eq_by_cmp_equiv}
use Rattle.std.proofs.lemmas.List.{get_or-set_same, get_or-set_other}
use Rattle.std.proofs.lemmas.List.Sums.{sum_by-cons}
use Rattle.std.specs.BTreeMap.{insert_entry, is_at}
use Rattle.std.specs.FinMap as map
use Rattle.std.specs.FinMap.Entries.{below_all}
use Rattle.std.specs.FinMap.{find, is_sorted, from_sorted, entries-from_sorted, get-from_sorted, get-empty, get-insert, same_map}
use Rattle.std.specs.List.{AllByRecursion, count_by}
use Rattle.std.specs.List.Sorted.{IsStrictlySortedBy}
use Rattle.std.specs.Map.{keys_of, values_of, lookup, set_value}
use Rattle.std.specs.Ordering.{eq_by_cmp, is_eq, is_lt, match_ordering}
use Rattle.std.specs.declared.cmp.Ordering.{Ordering}
use Rattle.std.specs.declared.cmp.Ordering.TheVariants.{Less, Equal, Greater}
use Rattle.gp_ploam.specs.declared.message.Serial.{Serial}
use Rattle.gp_ploam.specs.Serials.{serial_cmp}
use Rattle.gp_ploam.proofs.Serials.{serials_total, serials_exact}
use Rattle.gp_serial.specs.Admitted.{Admissions, AreCounts, count_on}
use Rattle.gp_serial.specs.declared.index.Admission.{Admission}

abbrev pub Entries : Type 0
Entries = List (Serial × Admission)

abbrev pub no_entries : Entries
no_entries = []

-- what is admitted under a serial number, as the code looks it up
abbrev pub found : Serial → Entries → Option Admission
found q es = lookup (is_at (serial_cmp q)) es

-- ---- in order

both : (a b : Bool) → T a → T b → T (a && b)
both true b p q = q
both false b p q = p

below_others : (x : Serial) (es : Entries) → AllByRecursion (λ y. serial_cmp x y ≡ Less) (keys_of es) → T (below_all serial_cmp x es)
below_others x [] h = tt
below_others x (e ∷ es) h = both (is_lt (serial_cmp x e.0)) (below_all serial_cmp x es) (subst (λ o. T (is_lt o)) (sym h.0) tt) (below_others x es h.1)

sorted : (es : Entries) → IsStrictlySortedBy serial_cmp (keys_of es) → T (is_sorted serial_cmp es)
unfolding IsStrictlySortedBy
sorted [] h = tt
sorted (e ∷ es) h = both (below_all serial_cmp e.0 es) (is_sorted serial_cmp es) (below_others e.0 es h.0) (sorted es h.1)

-- ---- the map

find_found : (q : Serial) (es : Entries) → find serial_cmp q es ≡ found q es
find_found q [] = refl
find_found q (e ∷ es) = ap (cond (is_eq (serial_cmp q e.0)) (Some e.1)) (find_found q es)

-- what the map has is what the code finds
pub get_found : (es : Entries) (q : Serial) → IsStrictlySortedBy serial_cmp (keys_of es) → map.get (from_sorted {R = serial_cmp} es) q ≡ found q es
get_found es q ordered = get-from_sorted serial_cmp es q (sorted es ordered) ∙ find_found q es

-- the map's values are those of the entries
pub values_kept : (es : Entries) → IsStrictlySortedBy serial_cmp (keys_of es) → map.values (from_sorted {R = serial_cmp} es) ≡ values_of es
values_kept es ordered = ap values_of (entries-from_sorted serial_cmp es (sorted es ordered))

-- an entry more, or another value, is the map with that entry
pub inserted : (old new : Entries) (k : Serial) (v : Admission) → IsStrictlySortedBy serial_cmp (keys_of old) → IsStrictlySortedBy serial_cmp (keys_of new)
    → ((q : Serial) → found q new ≡ cond (is_at (serial_cmp k) q) (Some v) (found q old))
    → from_sorted {R = serial_cmp} new ≡ map.insert (from_sorted old) k v
inserted old new k v before after updates =
    same_map serials_total serials_exact _ _ (λ q.
    get_found new q after ∙ updates q
    ∙ ap (λ b. cond b (Some v) (found q old)) ((eq_by_cmp_equiv serials_total).symm k q)
    ∙ ap (cond (eq_by_cmp serial_cmp q k) (Some v)) (sym (get_found old q before))
    ∙ sym (get-insert serials_total (from_sorted old) k v q))

-- two serial numbers that compare alike are one
same_key : (k q : Serial) (o : Ordering) → serial_cmp k q ≡ o → is_eq o ≡ true → k ≡ q
same_key k q Less is alike = cc alike
same_key k q Equal is alike = serials_exact k q is
same_key k q Greater is alike = cc alike

-- another value, and then the one before again, is the map as it was
pub restored : (old between new : Entries) (k : Serial) (v w : Admission) → IsStrictlySortedBy serial_cmp (keys_of old) → IsStrictlySortedBy serial_cmp (keys_of new)
    → Some w ≡ found k old
    → ((q : Serial) → found q between ≡ cond (is_at (serial_cmp k) q) (Some v) (found q old))
    → ((q : Serial) → found q new ≡ cond (is_at (serial_cmp k) q) (Some w) (found q between))
    → from_sorted {R = serial_cmp} new ≡ from_sorted old
restored old between new k v w before after is first second =
    same_map serials_total serials_exact _ _ (λ q.
    get_found new q after ∙ second q ∙ ap (cond (is_at (serial_cmp k) q) (Some w)) (first q) ∙ back q ∙ sym (get_found old q before))
  where
    back : (q : Serial) → cond (is_at (serial_cmp k) q) (Some w) (cond (is_at (serial_cmp k) q) (Some v) (found q old)) ≡ found q old
    back q =
        elim (cases_Bool (is_at (serial_cmp k) q)) [
          | inl alike ↦ rw alike (is ∙ ap (λ s. found s old) (same_key k q (serial_cmp k q) refl alike))
          | inr other ↦ rw other refl
        ]

none_ordered : IsStrictlySortedBy serial_cmp []
unfolding IsStrictlySortedBy
none_ordered = tt

-- no entry, no admission
pub none_kept : from_sorted {R = serial_cmp} no_entries ≡ map.empty
none_kept = same_map serials_total serials_exact _ _ (λ q. get-from_sorted serial_cmp no_entries q tt ∙ sym (get-empty serial_cmp q))

-- ---- counts

count-cons : (p : Admission → Bool) (a : Admission) (others : List Admission) → count_by p (a ∷ others) ≡ cond (p a) 1 0 + count_by p others
count-cons p a others = sum_by-cons (λ x. cond (p x) 1 0) a others

swap_sum : (a b n : ℕ) → a + (b + n) ≡ b + (a + n)
swap_sum a b n = omega arith

-- a new entry is counted once
pub count-insert_entry : (p : Admission → Bool) (k : Serial) (v : Admission) (es : Entries) → found k es ≡ None
    → count_by p (values_of (insert_entry serial_cmp es k v)) ≡ cond (p v) 1 0 + count_by p (values_of es)
count-insert_entry p k v [] none = count-cons p v []
count-insert_entry p k v (e ∷ es) none =
    elim (serial_cmp k e.0) as (λ o. serial_cmp k e.0 ≡ o → cond (is_eq o) (Some e.1) (found k es) ≡ None
    → count_by p (values_of (match_ordering o ((k, v) ∷ e ∷ es) ((e.0, v) ∷ es) (e ∷ insert_entry serial_cmp es k v))) ≡ cond (p v) 1 0 + count_by p (values_of (e ∷ es))) [
      | Less ↦ λ is absent. count-cons p v (values_of (e ∷ es))
      | Equal ↦ λ is absent. cc absent
      | Greater ↦ λ is absent.
          count-cons p e.1 (values_of (insert_entry serial_cmp es k v))
          ∙ ap (λ n. cond (p e.1) 1 0 + n) (count-insert_entry p k v es absent)
          ∙ swap_sum (cond (p e.1) 1 0) (cond (p v) 1 0) (count_by p (values_of es))
          ∙ ap (λ n. cond (p v) 1 0 + n) (sym (count-cons p e.1 (values_of es)))
    ] refl none

-- another value that is counted alike
pub count-set_value : (p : Admission → Bool) (test : Serial → Bool) (w : Admission) (es : Entries) → ((a : Admission) → lookup test es ≡ Some a → p w ≡ p a)
    → count_by p (values_of (set_value test es w)) ≡ count_by p (values_of es)
count-set_value p test w [] alike = refl
count-set_value p test w (e ∷ es) alike =
    elim (test e.0) as (λ b. ((a : Admission) → cond b (Some e.1) (lookup test es) ≡ Some a → p w ≡ p a)
    → count_by p (values_of (cond b ((e.0, w) ∷ es) (e ∷ set_value test es w))) ≡ count_by p (values_of (e ∷ es))) [
      | true ↦ λ same.
          count-cons p w (values_of es) ∙ ap (λ b. cond b 1 0 + count_by p (values_of es)) (same e.1 refl) ∙ sym (count-cons p e.1 (values_of es))
      | false ↦ λ same.
          count-cons p e.1 (values_of (set_value test es w))
          ∙ ap (λ n. cond (p e.1) 1 0 + n) (count-set_value p test w es same)
          ∙ sym (count-cons p e.1 (values_of es))
    ] alike

pub count_inserted : (port : ℕ) (old new : Entries) (k : Serial) (v : Admission) → IsStrictlySortedBy serial_cmp (keys_of old) → IsStrictlySortedBy serial_cmp (keys_of new)
    → found k old ≡ None → new ≡ insert_entry serial_cmp old k v
    → count_on port (from_sorted new) ≡ cond (v.port == port) 1 0 + count_on port (from_sorted old)
count_inserted port old new k v before after none grown =
    ap (count_by (λ (a : Admission). a.port == port)) (values_kept new after ∙ ap values_of grown)
    ∙ count-insert_entry (λ (a : Admission). a.port == port) k v old none
    ∙ ap (λ (all : List Admission). cond (v.port == port) 1 0 + count_by (λ (a : Admission). a.port == port) all) (sym (values_kept old before))

pub count_replaced : (port : ℕ) (old new : Entries) (test : Serial → Bool) (w : Admission) → IsStrictlySortedBy serial_cmp (keys_of old) → IsStrictlySortedBy serial_cmp (keys_of new)
    → ((a : Admission) → lookup test old ≡ Some a → (w.port == port) ≡ (a.port == port)) → new ≡ set_value test old w
    → count_on port (from_sorted new) ≡ count_on port (from_sorted old)
count_replaced port old new test w before after alike written =
    ap (count_by (λ (a : Admission). a.port == port)) (values_kept new after ∙ ap values_of written)
    ∙ count-set_value (λ (a : Admission). a.port == port) test w old alike
    ∙ ap (count_by (λ (a : Admission). a.port == port)) (sym (values_kept old before))

pub count_none : (port : ℕ) → count_on port map.empty ≡ 0
count_none port = ap (count_on port) (sym none_kept) ∙ ap (count_by (λ (a : Admission). a.port == port)) (values_kept no_entries none_ordered)

-- one more on a port
pub counted_more : (old new : Admissions) (counts : List ℕ) (port count : ℕ) → AreCounts old counts → length counts ≡ 256 → port < 256
    → count ≡ count_on port old → count < 512 → ((q : ℕ) → count_on q new ≡ cond (port == q) 1 0 + count_on q old)
    → AreCounts new (set counts port (count + 1))
counted_more old new counts port count kept long low is_count few grown =
    let within : port < length counts = omega (arith, long, low) in
    record {
      counted = λ q below.
          elim (cases_eq q port) [
            | inl same ↦
                subst (λ (x : ℕ). get_or (set counts port (count + 1)) x 0 ≡ count_on x new) (sym same)
                (get_or-set_same counts port (count + 1) 0 within ∙ one_more count (count_on port old) (port == port) is_count (eqb-refl port) ∙ sym (grown port))
            | inr other ↦ get_or-set_other counts port q (count + 1) 0 other ∙ kept.counted q below ∙ no_more (count_on q old) (port == q) (eqb-ne port q (λ e. other (sym e))) ∙ sym (grown q)
          ];
      most = λ q below.
          elim (cases_eq q port) [
            | inl same ↦
                subst (λ (x : ℕ). get_or (set counts port (count + 1)) x 0 ≤ 512) (sym same)
                (let written = get_or-set_same counts port (count + 1) 0 within in omega (arith, written, few))
            | inr other ↦ let stays = get_or-set_other counts port q (count + 1) 0 other in let most = kept.most q below in omega (arith, stays, most)
          ];
    }
  where
    one_more : (n m : ℕ) (b : Bool) → n ≡ m → b ≡ true → n + 1 ≡ cond b 1 0 + m
    one_more n m true e h = omega (arith, e)
    one_more n m false e h = cc h

    no_more : (n : ℕ) (b : Bool) → b ≡ false → n ≡ cond b 1 0 + n
    no_more n true h = cc h
    no_more n false h = omega arith

    eqb-refl : (n : ℕ) → (n == n) ≡ true
    eqb-refl n = grind (arith, nat_tests)

    eqb-ne : (m n : ℕ) → (m ≡ n → ⊥) → (m == n) ≡ false
    eqb-ne m n h = grind (arith, nat_tests)

port_in : Option Admission → ℕ
port_in None = 0
port_in (Some a) = a.port

-- one look-up finds one port
pub same_port : (a b : Admission) → Some a ≡ Some b → a.port ≡ b.port
unfolding port_in
same_port a b e = ap port_in e

-- a fact, where a call failed
pub on_err : {A E : Type 0} {P : Type 0} (r : Result A E) → P → OnErr r P
on_err (Ok x) p = tt
on_err (Err e) p = p
