-- Serial numbers that stand twice.
use Rattle.std.proofs.Common.{◌≡◌, ◌+◌, ◌-◌, ◌<◌, ◌≤◌, ℕ, Bool, true, false, not, cond, ◌&&◌, ◌||◌, List, [], ◌∷◌, ◌++◌, length, take, drop, get_or, inl, inr, refl, sym, ap, subst, ◌∙◌, arith, append_assoc, IsTrue, add-one, take-append-drop, append-nil, take_all, length-drop}
use Rattle.std.specs.Prelude.{Option, None, Some, IsSome, is_some}
use Rattle.std.specs.List.{list_any}
use Rattle.std.specs.FinMap as map
use Rattle.std.specs.Ordering.{eq_by_cmp}
use Rattle.std.proofs.Math.Seq.{drop-cons}
use Rattle.std.proofs.lemmas.Bool.{cases_Bool, or_parts, false≢true}
use Rattle.std.proofs.lemmas.List.{take_more}
use Rattle.std.proofs.lemmas.List.Folds.{list_any-append}
use Rattle.std.proofs.lemmas.Grind.{flat_map-append}
use Rattle.gp_ploam.specs.declared.message.Serial.{Serial}
use Rattle.gp_ploam.specs.Serials.{same_serial, is_among, serial_cmp}
use Rattle.gp_ploam.proofs.Serials.{serials_total, by_cmp-same, same_serial-true, same_serial-itself}
use Rattle.gp_serial.specs.Admitted.{Admissions, admission_on}
use Rattle.gp_machine.specs.declared.config.PortConfig.{PortConfig}
use Rattle.gp_machine.specs.Config.{is_distinct}
use Rattle.gp_chassis.specs.Limits.{Lists, all_admitted}

-- ---- lists with and without a serial number twice

-- serial numbers that are one, or two, are so either way round
turned : (s t : Serial) (b : Bool) → same_serial s t ≡ b → same_serial t s ≡ b
turned s t true h = let is = same_serial-true s t h in subst (λ (x : Serial). same_serial x s ≡ true) is (same_serial-itself s)
turned s t false h =
    elim (cases_Bool (same_serial t s)) [
      | inl same ↦ let is = same_serial-true t s same in absurd (false≢true (sym h ∙ subst (λ (x : Serial). same_serial s x ≡ true) (sym is) (same_serial-itself s)))
      | inr differ ↦ differ
    ]

-- a new serial number at the end
distinct_push : (xs : List Serial) (s : Serial) → is_among s xs ≡ false → is_distinct (xs ++ s ∷ []) ≡ is_distinct xs
distinct_push [] s h = refl
distinct_push (x ∷ xs) s h =
    let parts = or_parts (same_serial s x) (is_among s xs) h in
    let last : is_among x (s ∷ []) ≡ false = ap (λ (b : Bool). b || false) (turned s x false parts.0) in
    let among : is_among x (xs ++ s ∷ []) ≡ is_among x xs = list_any-append (same_serial x) xs (s ∷ []) ∙ ap (λ (b : Bool). is_among x xs || b) last ∙ or_false (is_among x xs) in
    ap (λ (b : Bool). not b && is_distinct (xs ++ s ∷ [])) among ∙ ap (λ (b : Bool). not (is_among x xs) && b) (distinct_push xs s parts.1)
  where
    or_false : (b : Bool) → (b || false) ≡ b
    or_false true = refl
    or_false false = refl

and_false : (b : Bool) → (b && false) ≡ false
and_false true = refl
and_false false = refl

-- one that is there already
distinct_not : (xs : List Serial) (s : Serial) → is_among s xs ≡ true → is_distinct (xs ++ s ∷ []) ≡ false
distinct_not [] s h = absurd (false≢true h)
distinct_not (x ∷ xs) s h =
    elim (cases_Bool (same_serial s x)) [
      | inl same ↦
          let last : is_among x (s ∷ []) ≡ true = ap (λ (b : Bool). b || false) (turned s x true same) in
          let among : is_among x (xs ++ s ∷ []) ≡ true = list_any-append (same_serial x) xs (s ∷ []) ∙ ap (λ (b : Bool). is_among x xs || b) last ∙ or_true (is_among x xs) in
          ap (λ (b : Bool). not b && is_distinct (xs ++ s ∷ [])) among
      | inr differ ↦
          let among : is_among s xs ≡ true = sym (ap (λ (b : Bool). b || is_among s xs) differ) ∙ h in
          ap (λ (b : Bool). not (is_among x (xs ++ s ∷ [])) && b) (distinct_not xs s among) ∙ and_false (not (is_among x (xs ++ s ∷ [])))
    ]
  where
    or_true : (b : Bool) → (b || true) ≡ true
    or_true true = refl
    or_true false = refl

-- what stands first in a list without one twice has none twice
distinct_first : (xs ys : List Serial) → is_distinct xs ≡ false → is_distinct (xs ++ ys) ≡ false
distinct_first [] ys h = absurd (false≢true (sym h))
distinct_first (x ∷ xs) ys h =
    elim (cases_Bool (is_distinct (xs ++ ys))) [
      | inl whole ↦
          elim (cases_Bool (is_among x xs)) [
            | inl twice ↦ ap (λ (b : Bool). not b && is_distinct (xs ++ ys)) (list_any-append (same_serial x) xs ys ∙ ap (λ (b : Bool). b || is_among x ys) twice)
            | inr once ↦
                let rest : is_distinct xs ≡ false = sym (ap (λ (b : Bool). not b && is_distinct xs) once) ∙ h in
                absurd (false≢true (sym (distinct_first xs ys rest) ∙ whole))
          ]
      | inr not_whole ↦ ap (λ (b : Bool). not (is_among x (xs ++ ys)) && b) not_whole ∙ and_false (not (is_among x (xs ++ ys)))
    ]

-- ---- one more on the admission list

cond_some : {X : Type 0} (b : Bool) (v : X) (o : Option X) → is_some (cond b (Some v) o) ≡ (b || is_some o)
cond_some true v o = refl
cond_some false v o = refl

or_turned : (a b : Bool) → (a || b) ≡ (b || (a || false))
or_turned true true = refl
or_turned true false = refl
or_turned false true = refl
or_turned false false = refl

some_or_none : (b : Bool) → (b ≡ true → ⊥) → b ≡ false
some_or_none true h = absurd (h refl)
some_or_none false h = refl

is_some_tells : {X : Type 0} (o : Option X) → is_some o ≡ true → IsSome o
is_some_tells None h = absurd (false≢true h)
is_some_tells (Some x) h = refl

pub listed_more : (m : Admissions) (xs : List Serial) (s : Serial) (port : ℕ) → (IsSome (map.get m s) → ⊥) → Lists m xs → IsTrue (is_distinct xs)
    → Lists (map.insert m s (admission_on port)) (xs ++ s ∷ []) × IsTrue (is_distinct (xs ++ s ∷ []))
listed_more m xs s port new has distinct =
    let among : is_among s xs ≡ false = some_or_none (is_among s xs) (λ h. new (is_some_tells (map.get m s) (has s ∙ h))) in (
      λ q.
          ap is_some (map.get-insert serials_total m s (admission_on port) q)
          ∙ cond_some (eq_by_cmp serial_cmp q s) (admission_on port) (map.get m q)
          ∙ ap (λ (b : Bool). b || is_some (map.get m q)) (by_cmp-same q s)
          ∙ ap (λ (b : Bool). same_serial q s || b) (has q)
          ∙ or_turned (same_serial q s) (is_among q xs)
          ∙ sym (list_any-append (same_serial q) xs (s ∷ [])),
      distinct_push xs s among ∙ distinct,
    )

pub listed_twice : (m : Admissions) (xs : List Serial) (s : Serial) (ys : List Serial) → IsSome (map.get m s) → Lists m xs → is_distinct ((xs ++ s ∷ []) ++ ys) ≡ false
listed_twice m xs s ys found has = distinct_first (xs ++ s ∷ []) ys (distinct_not xs s (sym (has s) ∙ some_told (map.get m s) found))
  where
    some_told : {X : Type 0} (o : Option X) → IsSome o → is_some o ≡ true
    some_told None h = absurd (false≢true h)
    some_told (Some x) h = refl

-- the first of the serial numbers, and the next one
pub next_serial : (before xs : List Serial) (i : ℕ) (d : Serial) → i < length xs → before ++ take (i + 1) xs ≡ (before ++ take i xs) ++ get_or xs i d ∷ []
next_serial before xs i d l = ap (λ (ys : List Serial). before ++ ys) (take_more xs i d l) ∙ sym (append_assoc before (take i xs) (get_or xs i d ∷ []))

-- all of them are the first ones, the next one and the others
pub split_serials : (before xs : List Serial) (i : ℕ) (d : Serial) → i < length xs → before ++ xs ≡ ((before ++ take i xs) ++ get_or xs i d ∷ []) ++ drop (i + 1) xs
split_serials before xs i d l =
    ap (λ (ys : List Serial). before ++ ys) (sym (take-append-drop (i + 1) xs)) ∙ sym (append_assoc before (take (i + 1) xs) (drop (i + 1) xs))
    ∙ ap (λ (ys : List Serial). ys ++ drop (i + 1) xs) (next_serial before xs i d l)

-- one more on the list, of these serial numbers
pub listed_next : (old new : Admissions) (before xs : List Serial) (i : ℕ) (d : Serial) (port : ℕ) → i < length xs → (IsSome (map.get old (get_or xs i d)) → ⊥) → new ≡ map.insert old (get_or xs i d) (admission_on port)
    → Lists old (before ++ take i xs) × IsTrue (is_distinct (before ++ take i xs))
    → Lists new (before ++ take (i + 1) xs) × IsTrue (is_distinct (before ++ take (i + 1) xs))
listed_next old new before xs i d port l absent is h =
    let G : Admissions → List Serial → Type 0 = λ m ys. Lists m ys × IsTrue (is_distinct ys) in
    let more : G (map.insert old (get_or xs i d) (admission_on port)) ((before ++ take i xs) ++ get_or xs i d ∷ []) =
    listed_more old (before ++ take i xs) (get_or xs i d) port absent h.0 h.1 in
    subst (λ (ys : List Serial). G new ys) (sym (next_serial before xs i d l)) (subst (λ (m : Admissions). G m ((before ++ take i xs) ++ get_or xs i d ∷ [])) (sym is) more)

-- one that is on the list already
pub listed_again : (m : Admissions) (before xs : List Serial) (i : ℕ) (d : Serial) → i < length xs → IsSome (map.get m (get_or xs i d)) → Lists m (before ++ take i xs) → is_distinct (before ++ xs) ≡ false
listed_again m before xs i d l found has = ap is_distinct (split_serials before xs i d l) ∙ listed_twice m (before ++ take i xs) (get_or xs i d) (drop (i + 1) xs) found has

-- all of them
pub listed_all : (m : Admissions) (before xs : List Serial) (i : ℕ) → length xs ≤ i → Lists m (before ++ take i xs) × IsTrue (is_distinct (before ++ take i xs)) → Lists m (before ++ xs) × IsTrue (is_distinct (before ++ xs))
listed_all m before xs i past h = subst (λ (ys : List Serial). Lists m (before ++ ys) × IsTrue (is_distinct (before ++ ys))) (take_all i xs past) h

-- ---- the serial numbers of all ports

pub none_listed : Lists map.empty []
none_listed s = ap is_some (map.get-empty serial_cmp s)

next_port : (ports : List PortConfig) (i : ℕ) (d : PortConfig) → i < length ports → all_admitted (take (i + 1) ports) ≡ all_admitted (take i ports) ++ (get_or ports i d).admitted
next_port ports i d l =
    ap all_admitted (take_more ports i d l) ∙ flat_map-append (λ (p : PortConfig). p.admitted) (take i ports) (get_or ports i d ∷ [])
    ∙ ap (λ (xs : List Serial). all_admitted (take i ports) ++ xs) (append-nil (get_or ports i d).admitted)

port_split : (ports : List PortConfig) (i : ℕ) (p : PortConfig) (xs : List Serial) → i < length ports → xs ≡ (get_or ports i p).admitted → all_admitted (take (i + 1) ports) ≡ all_admitted (take i ports) ++ xs
port_split ports i p xs l admits =
    next_port ports i p l ∙ ap (λ (ys : List Serial). all_admitted (take i ports) ++ ys) (sym admits)

-- a serial number twice on the first ports
first_ports_twice : (ports : List PortConfig) (i : ℕ) → is_distinct (all_admitted (take i ports)) ≡ false → is_distinct (all_admitted ports) ≡ false
first_ports_twice ports i h =
    let all : all_admitted ports ≡ all_admitted (take i ports) ++ all_admitted (drop i ports) =
    ap all_admitted (sym (take-append-drop i ports)) ∙ flat_map-append (λ (p : PortConfig). p.admitted) (take i ports) (drop i ports) in
    ap is_distinct all ∙ distinct_first (all_admitted (take i ports)) (all_admitted (drop i ports)) h

-- the next port's serial numbers are on the list
pub port_listed : (m : Admissions) (ports : List PortConfig) (i : ℕ) (p : PortConfig) (xs : List Serial) → i < length ports → xs ≡ (get_or ports i p).admitted
    → Lists m (all_admitted (take i ports) ++ xs) × IsTrue (is_distinct (all_admitted (take i ports) ++ xs))
    → Lists m (all_admitted (take (i + 1) ports)) × IsTrue (is_distinct (all_admitted (take (i + 1) ports)))
port_listed m ports i p xs l admits h =
    let same : all_admitted (take (i + 1) ports) ≡ all_admitted (take i ports) ++ xs = port_split ports i p xs l admits in
    subst (λ (ys : List Serial). Lists m ys × IsTrue (is_distinct ys)) (sym same) h

-- or one of them is there already
pub port_again : (ports : List PortConfig) (i : ℕ) (p : PortConfig) (xs : List Serial) → i < length ports → xs ≡ (get_or ports i p).admitted
    → is_distinct (all_admitted (take i ports) ++ xs) ≡ false → is_distinct (all_admitted ports) ≡ false
port_again ports i p xs l admits h = first_ports_twice ports (i + 1) (ap is_distinct (port_split ports i p xs l admits) ∙ h)

-- ---- without a list

-- all that is left of a list
whole : {X : Type 0} (xs : List X) (n : ℕ) → take (length xs - n) (drop n xs) ≡ drop n xs
whole {X} xs n = take_all (length xs - n) (drop n xs) (omega (arith, length-drop n xs))

pub among_all : (s : Serial) (ports : List PortConfig) → is_among s (all_admitted ports) ≡ list_any (λ (p : PortConfig). is_among s p.admitted) ports
among_all s [] = refl
among_all s (p ∷ ps) = list_any-append (same_serial s) p.admitted (all_admitted ps) ∙ ap (λ (b : Bool). is_among s p.admitted || b) (among_all s ps)

-- the serial numbers from one on, and those of the ports: that one is on none of them, or on one
pub compared : (xs : List Serial) (ports : List PortConfig) (i : ℕ) (d : Serial) (b : Bool) → i < length xs
    → b ≡ (is_among (get_or xs i d) (take (length xs - (i + 1)) (drop (i + 1) xs)) || list_any (λ (p : PortConfig). is_among (get_or xs i d) p.admitted) ports)
    → is_distinct (drop i xs ++ all_admitted ports) ≡ (not b && is_distinct (drop (i + 1) xs ++ all_admitted ports))
compared xs ports i d b l tells =
    let s : Serial = get_or xs i d in
    let rest : List Serial = drop (i + 1) xs in
    let first : drop i xs ≡ s ∷ rest = drop-cons xs i d l ∙ ap (λ (n : ℕ). s ∷ drop n xs) (sym (add-one i)) in
    let among : is_among s (rest ++ all_admitted ports) ≡ b = list_any-append (same_serial s) rest (all_admitted ports) ∙ ap (λ (c : Bool). is_among s rest || c) (among_all s ports)
    ∙ ap (λ (ys : List Serial). is_among s ys || list_any (λ (p : PortConfig). is_among s p.admitted) ports) (sym (whole xs (i + 1))) ∙ sym tells in
    ap (λ (ys : List Serial). is_distinct (ys ++ all_admitted ports)) first ∙ ap (λ (c : Bool). not c && is_distinct (rest ++ all_admitted ports)) among

-- the ports from one on: the serial numbers of that one are apart from those of the others, or not
pub ports_compared : (ports : List PortConfig) (i : ℕ) (p : PortConfig) (xs : List Serial) (b : Bool) → i < length ports → xs ≡ (get_or ports i p).admitted
    → is_distinct (xs ++ all_admitted (take (length ports - (i + 1)) (drop (i + 1) ports))) ≡ (b && is_distinct (all_admitted (take (length ports - (i + 1)) (drop (i + 1) ports))))
    → is_distinct (all_admitted (drop i ports)) ≡ (b && is_distinct (all_admitted (drop (i + 1) ports)))
ports_compared ports i p xs b l admits h =
    let first : drop i ports ≡ get_or ports i p ∷ drop (i + 1) ports = drop-cons ports i p l ∙ ap (λ (n : ℕ). get_or ports i p ∷ drop n ports) (sym (add-one i)) in
    let rest : is_distinct (xs ++ all_admitted (drop (i + 1) ports)) ≡ (b && is_distinct (all_admitted (drop (i + 1) ports))) =
    subst (λ (ps : List PortConfig). is_distinct (xs ++ all_admitted ps) ≡ (b && is_distinct (all_admitted ps))) (whole ports (i + 1)) h in
    ap (λ (ps : List PortConfig). is_distinct (all_admitted ps)) first ∙ ap (λ (ys : List Serial). is_distinct (ys ++ all_admitted (drop (i + 1) ports))) (sym admits) ∙ rest
