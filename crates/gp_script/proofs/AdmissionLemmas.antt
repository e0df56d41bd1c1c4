-- One more serial number in the admission list.
use Rattle.std.proofs.Common.{◌≡◌, ℕ, ◌+◌, ◌<◌, ◌==◌, ◌||◌, Bool, true, false, cond, List, [], ◌∷◌, ◌++◌, map, length, drop, get_or, suc, subst, Option, None, Some, Result, Ok, Err, IsSome, refl, sym, ap, ◌∙◌, arith}
use Rattle.std.proofs.Math.Seq.{drop-cons}
use Rattle.std.proofs.lemmas.Bool.{or_parts}
use Rattle.std.proofs.lemmas.Bool.Decides.{nat_tests}
use Rattle.std.proofs.lemmas.List.{length_push}
use Rattle.std.proofs.lemmas.List.Folds.{list_any-append}
use Rattle.std.proofs.lemmas.List.Sums.{sum_by-cons}
use Rattle.std.specs.FinMap as map
use Rattle.std.specs.FinMap.{entries, entries-insert, find, put, get-empty, get-entries, get-insert}
use Rattle.std.specs.List.{count_by}
use Rattle.std.specs.Option.{is_some, MatchOption}
use Rattle.std.specs.Ordering.{eq_by_cmp, is_eq}
use Rattle.std.specs.declared.cmp.Ordering.TheVariants.{Less, Equal, Greater}
use Rattle.std.specs.FinMap.Entries.{by_order}
use Rattle.gp_ploam.specs.declared.message.Serial.{Serial}
use Rattle.gp_ploam.specs.Serials.{is_among, same_serial, serial_cmp}
use Rattle.gp_ploam.proofs.Serials.{serials_total, by_cmp-same}
use Rattle.gp_serial.specs.Admitted.{Admissions, admission_on, count_on, max_on_a_port}
use Rattle.gp_serial.specs.declared.index.Admission.{Admission}
use Rattle.gp_serial.proofs.IndexLemmas.{count_none}
use Rattle.gp_machine.specs.declared.config.PortConfig.{PortConfig}
use Rattle.gp_serial.specs.declared.fault.AdmitFault.{AdmitFault}
use Rattle.gp_serial.specs.declared.fault.AdmitFault.TheVariants as admits
use Rattle.toml.specs.Data.{Data, Items, item}
use Rattle.toml.specs.View.{items_view, view}
use Rattle.toml.specs.declared.value.Value.{Value}
use Rattle.gp_script.specs.declared.place.TablePlace.TheVariants as places
use Rattle.gp_script.specs.declared.place.Wanted.{Wanted}
use Rattle.gp_script.specs.declared.place.Wanted.TheVariants as wanted
use Rattle.gp_script.specs.Fault.{Stops}
use Rattle.gp_script.specs.Mistake.{TableMistakeView, in_table}
use Rattle.gp_script.specs.Port.{is_admitted, new_serial, port_with, serial_in, serials_from}
use Rattle.gp_script.specs.Admits.{Admits, item_error, wanted_by_admit}

-- ---- how many are admitted on a port

values_in : List (Serial × Admission) → List Admission
values_in es = map (λ e. e.1) es

count-cons : (p : Admission → Bool) (a : Admission) (others : List Admission) → count_by p (a ∷ others) ≡ cond (p a) 1 0 + count_by p others
count-cons p a others = sum_by-cons (λ x. cond (p x) 1 0) a others

swap_sum : (a b n : ℕ) → a + (b + n) ≡ b + (a + n)
swap_sum a b n = omega arith

-- a new entry is counted once
count-put : (p : Admission → Bool) (k : Serial) (v : Admission) (es : List (Serial × Admission)) → find serial_cmp k es ≡ None
    → count_by p (values_in (put serial_cmp k v es)) ≡ cond (p v) 1 0 + count_by p (values_in es)
unfolding values_in
count-put p k v [] none = count-cons p v []
count-put p k v (e ∷ es) none =
    elim (serial_cmp k e.0) as (λ o. serial_cmp k e.0 ≡ o → cond (is_eq o) (Some e.1) (find serial_cmp k es) ≡ None
    → count_by p (values_in (by_order o ((k, v) ∷ e ∷ es) ((e.0, v) ∷ es) (e ∷ put serial_cmp k v es))) ≡ cond (p v) 1 0 + count_by p (values_in (e ∷ es))) [
      | Less ↦ λ is absent. count-cons p v (values_in (e ∷ es))
      | Equal ↦ λ is absent. cc absent
      | Greater ↦ λ is absent.
          count-cons p e.1 (values_in (put serial_cmp k v es))
          ∙ ap (λ n. cond (p e.1) 1 0 + n) (count-put p k v es absent)
          ∙ swap_sum (cond (p e.1) 1 0) (cond (p v) 1 0) (count_by p (values_in es))
          ∙ ap (λ n. cond (p v) 1 0 + n) (sym (count-cons p e.1 (values_in es)))
    ] refl none

count_more : (port : ℕ) (m : Admissions) (k : Serial) (v : Admission) → map.get m k ≡ None → count_on port (map.insert m k v) ≡ cond (v.port == port) 1 0 + count_on port m
unfolding values_in
count_more port m k v none =
    ap (λ es. count_by (λ (a : Admission). a.port == port) (values_in es)) (entries-insert serials_total m k v)
    ∙ count-put (λ (a : Admission). a.port == port) k v (entries m) (sym (get-entries m k) ∙ none)

-- ---- what is admitted

-- none is, before the first port
pub admits_none : Admits map.empty [] []
admits_none = record {
  here = λ serial. ap is_some (get-empty serial_cmp serial);
  count = count_none 0;
  later = λ port above. count_none port;
}

one_here : (port : ℕ) (b : Bool) (n : ℕ) → (port == port) ≡ b → cond b 1 0 + n ≡ n + 1
one_here port true n h = omega arith
one_here port false n h = absurd (grind (arith, nat_tests))

none_there : (port other : ℕ) (b : Bool) (n : ℕ) → port < other → (port == other) ≡ b → cond b 1 0 + n ≡ n
none_there port other true n below h = absurd (grind (arith, nat_tests))
none_there port other false n below h = omega arith

found_or : (b : Bool) (v : Admission) (o : Bool) → (x : Bool) → x ≡ o → (b || x) ≡ (b || o)
found_or b v o x e = ap (λ y. b || y) e

new_or_found : (b : Bool) (v : Admission) (o : map.FinMap serial_cmp Admission) (q : Serial) → is_some (cond b (Some v) (map.get o q)) ≡ (b || is_some (map.get o q))
new_or_found true v o q = refl
new_or_found false v o q = refl

moved : (a b c : Bool) → (a || (b || c)) ≡ ((b || (a || false)) || c)
moved true true c = refl
moved true false c = refl
moved false true c = refl
moved false false c = refl

-- a new one on the port after these
pub admits_more : (m : Admissions) (ports : List PortConfig) (serials : List Serial) (s : Serial) → Admits m ports serials → map.get m s ≡ None
    → Admits (map.insert m s (admission_on (length ports))) ports (serials ++ s ∷ [])
admits_more m ports serials s has none = record {
  here = λ q.
      ap is_some (get-insert serials_total m s (admission_on (length ports)) q)
      ∙ new_or_found (eq_by_cmp serial_cmp q s) (admission_on (length ports)) m q
      ∙ ap (λ b. b || is_some (map.get m q)) (by_cmp-same q s)
      ∙ ap (λ b. same_serial q s || b) (has.here q)
      ∙ moved (same_serial q s) (is_among q serials) (is_admitted q ports)
      ∙ ap (λ b. b || is_admitted q ports) (sym (list_any-append (same_serial q) serials (s ∷ [])));
  count =
      count_more (length ports) m s (admission_on (length ports)) none
      ∙ one_here (length ports) (length ports == length ports) _ refl
      ∙ ap (λ n. n + 1) has.count
      ∙ sym (length_push serials s);
  later = λ port above. count_more port m s (admission_on (length ports)) none ∙ none_there (length ports) port (length ports == port) _ above refl ∙ has.later port above;
}

turned : (a b : Bool) → (a || b) ≡ (b || (a || false))
turned true true = refl
turned true false = refl
turned false true = refl
turned false false = refl

-- the port after these becomes one of them
pub admits_port : (m : Admissions) (ports : List PortConfig) (port : PortConfig) → Admits m ports port.admitted → Admits m (ports ++ port ∷ []) []
admits_port m ports port has = record {
  here = λ q.
      has.here q
      ∙ turned (is_among q port.admitted) (is_admitted q ports)
      ∙ sym (list_any-append (λ (p : PortConfig). is_among q p.admitted) ports (port ∷ []));
  count = let more = length_push ports port in let none = has.later (length (ports ++ port ∷ [])) (omega (arith, more)) in none;
  later = λ other above. let more = length_push ports port in has.later other (omega (arith, more, above));
}

-- ---- the walk over the texts of `admit`

none_unless : {A : Type 0} (o : Option A) → (IsSome o → ⊥) → o ≡ None
none_unless None h = refl
none_unless (Some x) h = absurd (h refl)

-- a serial number that the list doesn't have is new on this port and those before it
pub is_new : (m : Admissions) (ports : List PortConfig) (serials : List Serial) (s : Serial) → Admits m ports serials → (IsSome (map.get m s) → ⊥)
    → (map.get m s ≡ None) × (is_among s serials ≡ false) × (is_admitted s ports ≡ false)
is_new m ports serials s has unknown =
    let none = none_unless (map.get m s) unknown in
    let parts = or_parts (is_among s serials) (is_admitted s ports) (sym (has.here s) ∙ ap is_some none) in
    (none, parts.0, parts.1)

-- so its text is read as it
pub read_new : (ports : List PortConfig) (serials : List Serial) (d : Data) (s : Serial) → serial_in d ≡ Ok s → is_among s serials ≡ false → is_admitted s ports ≡ false
    → new_serial ports serials d ≡ Ok s
unfolding new_serial
read_new ports serials d s reads among admitted = simp (reads, among, admitted)

read_known : (ports : List PortConfig) (serials : List Serial) (d : Data) (s : Serial) → serial_in d ≡ Ok s → (is_among s serials || is_admitted s ports) ≡ true
    → new_serial ports serials d ≡ Err (wanted.NewSerial (port_with s ports))
unfolding new_serial
read_known ports serials d s reads is_known = simp (reads, is_known)

-- what is wanted of an item ends the walk there, and so does want of memory
pub stopped : (ports : List PortConfig) (serials : List Serial) (d : Data) (rest : Items) (want : Option Wanted) → MatchOption want (Unit {0}) (λ w. new_serial ports serials d ≡ Err w)
    → Stops (item_error (length ports) (length serials) want) (in_table (places.Port (length ports)) (serials_from ports serials (item d rest)))
unfolding serials_from
stopped ports serials d rest None says = tt
stopped ports serials d rest (Some want) says = simp says

-- a text that spells no serial number
pub no_serial : (ports : List PortConfig) (serials : List Serial) (d : Data) (want : Wanted) → serial_in d ≡ Err want → new_serial ports serials d ≡ Err want
unfolding new_serial
no_serial ports serials d want reads = simp reads

-- where the list refuses it, the mistake is the one of the walk
pub refused : (m : Admissions) (ports : List PortConfig) (serials : List Serial) (d : Data) (s : Serial) (fault : AdmitFault) → serial_in d ≡ Ok s → Admits m ports serials
    → length serials < max_on_a_port
    → (fault ≡ admits.Duplicate → IsSome (map.get m s))
    → (fault ≡ admits.Full → count_on (length ports) m ≡ max_on_a_port)
    → MatchOption (wanted_by_admit ports s fault) (Unit {0}) (λ w. new_serial ports serials d ≡ Err w)
refused m ports serials d s admits.Duplicate reads has few duplicate full = read_known ports serials d s reads (sym (has.here s) ∙ duplicate refl)
refused m ports serials d s admits.Full reads has few duplicate full = absurd (let e = full refl in let n = has.count in omega (arith, e, n, few))
refused m ports serials d s admits.OutOfMemory reads has few duplicate full = tt

-- a text of `admit` that is refused ends the walk
pub stopped_at : (ports : List PortConfig) (serials : List Serial) (texts : List Value) (i : ℕ) (text : Value) (says : Result (List Serial) TableMistakeView) (want : Option Wanted)
    → i < length texts
    → text ≡ get_or texts i text
    → serials_from ports serials (items_view (drop i texts)) ≡ says
    → MatchOption want (Unit {0}) (λ w. new_serial ports serials (view text) ≡ Err w)
    → Stops (item_error (length ports) (length serials) want) (in_table (places.Port (length ports)) says)
stopped_at ports serials texts i text says want here is walk fails =
    let there = stopped ports serials (view text) (items_view (drop (suc i) texts)) want fails in
    let first : drop i texts ≡ text ∷ drop (suc i) texts = drop-cons texts i text here ∙ ap (λ (t : Value). t ∷ drop (suc i) texts) (sym is) in
    let same : serials_from ports serials (items_view (text ∷ drop (suc i) texts)) ≡ says = ap (λ (ts : List Value). serials_from ports serials (items_view ts)) (sym first) ∙ walk in
    subst (λ (r : Result (List Serial) TableMistakeView). Stops (item_error (length ports) (length serials) want) (in_table (places.Port (length ports)) r)) same there
