-- What the index over the admitted serial numbers says, and what becomes of it.
use Rattle.std.proofs.Common.{◌≡◌, ℕ, ◌+◌, ◌<◌, length, take, get_or, Bool, true, false, cond, not, ◌||◌, ◌&&◌, List, [], ◌∷◌, ◌++◌, ◌⊎◌, Option, None, Some, inl, inr, refl, sym, ap, subst, ◌∙◌, is_some}
use Rattle.std.proofs.lemmas.Bool.{cases_Bool}
use Rattle.std.proofs.lemmas.List.{take_more}
use Rattle.std.specs.List.{list_any}
use Rattle.std.proofs.lemmas.List.Folds.{list_any-append}
use Rattle.std.specs.Option.{option_map}
use Rattle.std.specs.Ordering.{eq_by_cmp}
use Rattle.std.specs.FinMap as fin
use Rattle.std.specs.FinSet as set
use Rattle.gp_ploam.specs.declared.message.Serial.{Serial}
use Rattle.gp_ploam.specs.Serials.{serial_cmp, same_serial, is_among}
use Rattle.gp_ploam.proofs.Serials.{serials_total, serials_exact, by_cmp-same, same_serial-true}
use Rattle.gp_table.specs.declared.admission_index.AdmittedSerial.{AdmittedSerial}
use Rattle.gp_table.specs.Values.{map_values}
use Rattle.gp_table.specs.Index.{Admissions, key_in, disabled_in, key_or_zero, keys_of, admitted_of, disabled_of, changed, changed_at, with_key, with_disabled, enabled, fresh_admission, fresh_if, admitting, IsFresh}
use Rattle.gp_table.proofs.Values.{get-map_values}
use Rattle.gp_table.proofs.Gets.{get-insert_same, get-insert_other}

-- ---- what it says

pub get-keys_of : (m : Admissions) (q : Serial) → fin.get (keys_of m) q ≡ key_in (fin.get m q)
unfolding keys_of
get-keys_of m q =
    get-map_values serial_cmp (λ (a : AdmittedSerial). key_or_zero a.key) (fin.retain_keys m (λ s. is_some (key_in (fin.get m s)))) q
    ∙ ap (option_map (λ (a : AdmittedSerial). key_or_zero a.key)) (fin.get-retain_keys m (λ s. is_some (key_in (fin.get m s))) q (λ x tie. ap (λ (o : Option AdmittedSerial). is_some (key_in o)) (fin.get_tied serials_total m q x tie)))
    ∙ by_admission (fin.get m q)
  where
    by_key : (o : Option ℕ) → option_map key_or_zero (cond (is_some o) (Some o) None) ≡ o
    by_key None = refl
    by_key (Some k) = refl

    by_admission : (o : Option AdmittedSerial) → option_map (λ (a : AdmittedSerial). key_or_zero a.key) (cond (is_some (key_in o)) o None) ≡ key_in o
    by_admission None = refl
    by_admission (Some a) =
        elim a.key as (λ k. option_map (λ (b : AdmittedSerial). key_or_zero b.key) (cond (is_some k) (Some (record a { key = k })) None) ≡ k) [ None ↦ refl | Some k ↦ refl ]

contains-keys : (m : Admissions) (q : Serial) → set.contains (set.from_list {R = serial_cmp} (fin.keys m)) q ≡ is_some (fin.get m q)
contains-keys m q = set.contains-from_list serials_total (fin.keys m) q ∙ sym (fin.contains_key-keys m q)

pub contains-admitted_of : (m : Admissions) (q : Serial) → set.contains (admitted_of m) q ≡ is_some (fin.get m q)
unfolding admitted_of
contains-admitted_of m q = contains-keys m q

pub contains-disabled_of : (m : Admissions) (q : Serial) → set.contains (disabled_of m) q ≡ disabled_in (fin.get m q)
unfolding disabled_of
contains-disabled_of m q =
    set.contains-retain (set.from_list {R = serial_cmp} (fin.keys m)) (λ s. disabled_in (fin.get m s)) q (λ x tie. ap disabled_in (fin.get_tied serials_total m q x tie))
    ∙ ap (λ b. b && disabled_in (fin.get m q)) (contains-keys m q)
    ∙ by_admission (fin.get m q)
  where
    by_admission : (o : Option AdmittedSerial) → (is_some o && disabled_in o) ≡ disabled_in o
    by_admission None = refl
    by_admission (Some a) = refl

-- a set made from a list has those that are among them
pub contains-from_list : (ss : List Serial) (q : Serial) → set.contains (set.from_list {R = serial_cmp} ss) q ≡ is_among q ss
contains-from_list ss q = set.contains-from_list serials_total ss q ∙ by_list ss
  where
    by_list : (ts : List Serial) → list_any (eq_by_cmp serial_cmp q) ts ≡ is_among q ts
    by_list [] = refl
    by_list (t ∷ ts) = ap (λ b. b || list_any (eq_by_cmp serial_cmp q) ts) (by_cmp-same q t) ∙ ap (λ b. same_serial q t || b) (by_list ts)

same_sets : (a b : set.FinSet serial_cmp) → ((q : Serial) → set.contains a q ≡ set.contains b q) → a ≡ b
same_sets a b same = set.same_set serials_total serials_exact a b same

-- ---- at first

pub fresh_admitted : (m : Admissions) (ss : List Serial) → IsFresh ss m → admitted_of m ≡ set.from_list ss
fresh_admitted m ss h = same_sets _ _ (λ q. contains-admitted_of m q ∙ ap is_some (h.each q) ∙ by_test (is_among q ss) ∙ sym (contains-from_list ss q))
  where
    by_test : (b : Bool) → is_some (fresh_if b) ≡ b
    by_test true = refl
    by_test false = refl

pub fresh_keys : (m : Admissions) (ss : List Serial) → IsFresh ss m → keys_of m ≡ fin.empty
fresh_keys m ss h = fin.same_map serials_total serials_exact _ _ (λ q. get-keys_of m q ∙ ap key_in (h.each q) ∙ by_test (is_among q ss) ∙ sym (fin.get-empty serial_cmp q))
  where
    by_test : (b : Bool) → key_in (fresh_if b) ≡ None
    by_test true = refl
    by_test false = refl

pub fresh_disabled : (m : Admissions) (ss : List Serial) → IsFresh ss m → disabled_of m ≡ set.empty
fresh_disabled m ss h = same_sets _ _ (λ q. contains-disabled_of m q ∙ ap disabled_in (h.each q) ∙ by_test (is_among q ss) ∙ sym (set.contains-empty serial_cmp q))
  where
    by_test : (b : Bool) → disabled_in (fresh_if b) ≡ false
    by_test true = refl
    by_test false = refl

-- a serial number more
pub admitting_new : (m : Admissions) (s : Serial) → fin.get m s ≡ None → fin.insert m s fresh_admission ≡ admitting m s
admitting_new m s none = sym (ap (λ (o : Option AdmittedSerial). cond (is_some o) m (fin.insert m s fresh_admission)) none)

pub admitting_known : (m : Admissions) (s : Serial) (a : AdmittedSerial) → fin.get m s ≡ Some a → m ≡ admitting m s
admitting_known m s a known = sym (ap (λ (o : Option AdmittedSerial). cond (is_some o) m (fin.insert m s fresh_admission)) known)

pub fresh_none : IsFresh [] fin.empty
fresh_none = record { each = λ q. fin.get-empty serial_cmp q }

pub fresh_more : (m : Admissions) (ss : List Serial) (s : Serial) → IsFresh ss m → IsFresh (ss ++ s ∷ []) (admitting m s)
fresh_more m ss s h = record { each = λ q. got q (cases_Bool (is_among s ss)) ∙ ap (λ o. cond (same_serial q s) (Some fresh_admission) o) (h.each q) ∙ joined (is_among q ss) (same_serial q s) ∙ ap fresh_if (sym (list_any-append (same_serial q) ss (s ∷ []))) }
  where
    joined : (a b : Bool) → cond b (Some fresh_admission) (fresh_if a) ≡ fresh_if (a || (b || false))
    joined true true = refl
    joined true false = refl
    joined false true = refl
    joined false false = refl

    got : (q : Serial) → (is_among s ss ≡ true) ⊎ (is_among s ss ≡ false) → fin.get (admitting m s) q ≡ cond (same_serial q s) (Some fresh_admission) (fin.get m q)
    got q (inl known) =
        let has : fin.get m s ≡ Some fresh_admission = h.each s ∙ ap fresh_if known in
        ap (λ (n : Admissions). fin.get n q) (sym (admitting_known m s fresh_admission has))
        ∙ elim (cases_Bool (same_serial q s)) [
          | inl t ↦ subst (λ (x : Serial). fin.get m x ≡ Some fresh_admission) (sym (same_serial-true q s t)) has ∙ ap (λ b. cond b (Some fresh_admission) (fin.get m q)) (sym t)
          | inr f ↦ ap (λ b. cond b (Some fresh_admission) (fin.get m q)) (sym f)
        ]
    got q (inr new) =
        ap (λ (n : Admissions). fin.get n q) (sym (admitting_new m s (h.each s ∙ ap fresh_if new)))
        ∙ fin.get-insert serials_total m s fresh_admission q ∙ ap (λ b. cond b (Some fresh_admission) (fin.get m q)) (by_cmp-same q s)

-- one of a list more
pub fresh_step : (ss : List Serial) (i : ℕ) (d : Serial) (m new : Admissions) → i < length ss → IsFresh (take i ss) m → new ≡ admitting m (get_or ss i d) → IsFresh (take (i + 1) ss) new
fresh_step ss i d m new within h is = rw (take_more ss i d within, is) (fresh_more m (take i ss) (get_or ss i d) h)

-- ---- changes

pub changed_absent : (m : Admissions) (s : Serial) (change : AdmittedSerial → AdmittedSerial) → fin.get m s ≡ None → m ≡ changed m s change
changed_absent m s change none = sym (ap (changed_at m s change) none)

module _ (m : Admissions) (s : Serial) (change : AdmittedSerial → AdmittedSerial) where
  get-changed_same : fin.get (changed m s change) s ≡ option_map change (fin.get m s)
  get-changed_same = by_admission (fin.get m s) refl
    where
      by_admission : (o : Option AdmittedSerial) → fin.get m s ≡ o → fin.get (changed_at m s change o) s ≡ option_map change o
      by_admission None e = e
      by_admission (Some a) e = get-insert_same m s (change a)

  get-changed_other : (q : Serial) → same_serial q s ≡ false → fin.get (changed m s change) q ≡ fin.get m q
  get-changed_other q f = by_admission (fin.get m s)
    where
      by_admission : (o : Option AdmittedSerial) → fin.get (changed_at m s change o) q ≡ fin.get m q
      by_admission None = refl
      by_admission (Some a) = get-insert_other m s (change a) q f

  -- what is asked of one serial number, where the change doesn't touch the answer
  untouched : {A : Type 0} (ask : Option AdmittedSerial → A) → ((o : Option AdmittedSerial) → ask (option_map change o) ≡ ask o) → (q : Serial) → ask (fin.get (changed m s change) q) ≡ ask (fin.get m q)
  untouched ask same q = elim (cases_Bool (same_serial q s)) [
    | inl t ↦ subst (λ (x : Serial). ask (fin.get (changed m s change) x) ≡ ask (fin.get m x)) (sym (same_serial-true q s t)) (ap ask get-changed_same ∙ same (fin.get m s))
    | inr f ↦ ap ask (get-changed_other q f)
  ]

  pub admitted_stays : admitted_of (changed m s change) ≡ admitted_of m
  admitted_stays = same_sets _ _ (λ q. contains-admitted_of (changed m s change) q ∙ untouched is_some still q ∙ sym (contains-admitted_of m q))
    where
      still : (o : Option AdmittedSerial) → is_some (option_map change o) ≡ is_some o
      still None = refl
      still (Some a) = refl

  keys_after : (k : Option ℕ) → key_in (option_map change (fin.get m s)) ≡ k → (q : Serial) → fin.get (keys_of (changed m s change)) q ≡ cond (same_serial q s) k (fin.get (keys_of m) q)
  keys_after k is q = elim (cases_Bool (same_serial q s)) [
    | inl t ↦
        get-keys_of (changed m s change) q ∙ ap (λ (x : Serial). key_in (fin.get (changed m s change) x)) (same_serial-true q s t) ∙ ap key_in get-changed_same ∙ is
        ∙ ap (λ b. cond b k (fin.get (keys_of m) q)) (sym t)
    | inr f ↦
        get-keys_of (changed m s change) q ∙ ap key_in (get-changed_other q f) ∙ sym (get-keys_of m q)
        ∙ ap (λ b. cond b k (fin.get (keys_of m) q)) (sym f)
  ]

  disabled_after : (b : Bool) → disabled_in (option_map change (fin.get m s)) ≡ b → (q : Serial) → set.contains (disabled_of (changed m s change)) q ≡ cond (same_serial q s) b (set.contains (disabled_of m) q)
  disabled_after b is q = elim (cases_Bool (same_serial q s)) [
    | inl t ↦
        contains-disabled_of (changed m s change) q ∙ ap (λ (x : Serial). disabled_in (fin.get (changed m s change) x)) (same_serial-true q s t) ∙ ap disabled_in get-changed_same ∙ is
        ∙ ap (λ c. cond c b (set.contains (disabled_of m) q)) (sym t)
    | inr f ↦
        contains-disabled_of (changed m s change) q ∙ ap disabled_in (get-changed_other q f) ∙ sym (contains-disabled_of m q)
        ∙ ap (λ c. cond c b (set.contains (disabled_of m) q)) (sym f)
  ]

pub keys_stay : (m : Admissions) (s : Serial) (disabled : Bool) → keys_of (changed m s (with_disabled disabled)) ≡ keys_of m
keys_stay m s disabled = fin.same_map serials_total serials_exact _ _ (λ q.
    get-keys_of (changed m s (with_disabled disabled)) q ∙ untouched m s (with_disabled disabled) key_in still q ∙ sym (get-keys_of m q))
  where
    still : (o : Option AdmittedSerial) → key_in (option_map (with_disabled disabled) o) ≡ key_in o
    still None = refl
    still (Some a) = refl

pub disabled_stays : (m : Admissions) (s : Serial) (key : Option ℕ) → disabled_of (changed m s (with_key key)) ≡ disabled_of m
disabled_stays m s key = same_sets _ _ (λ q.
    contains-disabled_of (changed m s (with_key key)) q ∙ untouched m s (with_key key) disabled_in still q ∙ sym (contains-disabled_of m q))
  where
    still : (o : Option AdmittedSerial) → disabled_in (option_map (with_key key) o) ≡ disabled_in o
    still None = refl
    still (Some a) = refl

some_is_not_none : {A : Type 0} (b : Bool) (o : Option A) → o ≡ None → is_some o ≡ b → b ≡ false
some_is_not_none b o none is = sym is ∙ ap is_some none

-- a unit becomes active
pub keys_of-insert : (m : Admissions) (s : Serial) (key : ℕ) → set.contains (admitted_of m) s ≡ true → keys_of (changed m s (with_key (Some key))) ≡ fin.insert (keys_of m) s key
keys_of-insert m s key admitted = fin.same_map serials_total serials_exact _ _ (λ q.
    keys_after m s (with_key (Some key)) (Some key) (by_admission (fin.get m s) (sym (contains-admitted_of m s) ∙ admitted)) q
    ∙ ap (λ b. cond b (Some key) (fin.get (keys_of m) q)) (sym (by_cmp-same q s))
    ∙ sym (fin.get-insert serials_total (keys_of m) s key q))
  where
    by_admission : (o : Option AdmittedSerial) → is_some o ≡ true → key_in (option_map (with_key (Some key)) o) ≡ Some key
    by_admission None e = cc
    by_admission (Some a) e = refl

-- a unit is active no more
pub keys_of-remove : (m : Admissions) (s : Serial) → keys_of (changed m s (with_key None)) ≡ fin.remove (keys_of m) s
keys_of-remove m s = fin.same_map serials_total serials_exact _ _ (λ q.
    keys_after m s (with_key None) None (by_admission (fin.get m s)) q
    ∙ ap (λ b. cond b None (fin.get (keys_of m) q)) (sym (by_cmp-same q s))
    ∙ sym (fin.get-remove serials_total (keys_of m) s q))
  where
    by_admission : (o : Option AdmittedSerial) → key_in (option_map (with_key None) o) ≡ None
    by_admission None = refl
    by_admission (Some a) = refl

-- a serial number is disabled
pub disabled_of-insert : (m : Admissions) (s : Serial) → set.contains (admitted_of m) s ≡ true → disabled_of (changed m s (with_disabled true)) ≡ set.insert (disabled_of m) s
disabled_of-insert m s admitted = same_sets _ _ (λ q.
    disabled_after m s (with_disabled true) true (by_admission (fin.get m s) (sym (contains-admitted_of m s) ∙ admitted)) q
    ∙ by_test (same_serial q s) (set.contains (disabled_of m) q)
    ∙ ap (λ b. b || set.contains (disabled_of m) q) (sym (by_cmp-same q s))
    ∙ sym (set.contains-insert serials_total (disabled_of m) s q))
  where
    by_admission : (o : Option AdmittedSerial) → is_some o ≡ true → disabled_in (option_map (with_disabled true) o) ≡ true
    by_admission None e = e
    by_admission (Some a) e = refl

    by_test : (b c : Bool) → cond b true c ≡ (b || c)
    by_test true c = refl
    by_test false c = refl

-- a serial number is enabled
pub disabled_of-remove : (m : Admissions) (s : Serial) → disabled_of (changed m s (with_disabled false)) ≡ set.remove (disabled_of m) s
disabled_of-remove m s = same_sets _ _ (λ q.
    disabled_after m s (with_disabled false) false (by_admission (fin.get m s)) q
    ∙ by_test (same_serial q s) (set.contains (disabled_of m) q)
    ∙ ap (λ b. not b && set.contains (disabled_of m) q) (sym (by_cmp-same q s))
    ∙ sym (set.contains-remove serials_total (disabled_of m) s q))
  where
    by_admission : (o : Option AdmittedSerial) → disabled_in (option_map (with_disabled false) o) ≡ false
    by_admission None = refl
    by_admission (Some a) = refl

    by_test : (b c : Bool) → cond b false c ≡ (not b && c)
    by_test true c = refl
    by_test false c = refl

-- ---- all are enabled

module _ (m : Admissions) where
  asked : {A : Type 0} (ask : Option AdmittedSerial → A) → ((o : Option AdmittedSerial) → ask (option_map enabled o) ≡ ask o) → (q : Serial) → ask (fin.get (map_values enabled m) q) ≡ ask (fin.get m q)
  asked ask same q = ap ask (get-map_values serial_cmp enabled m q) ∙ same (fin.get m q)

  pub admitted_of-enabled : admitted_of (map_values enabled m) ≡ admitted_of m
  admitted_of-enabled = same_sets _ _ (λ q. contains-admitted_of (map_values enabled m) q ∙ asked is_some still q ∙ sym (contains-admitted_of m q))
    where
      still : (o : Option AdmittedSerial) → is_some (option_map enabled o) ≡ is_some o
      still None = refl
      still (Some a) = refl

  pub keys_of-enabled : keys_of (map_values enabled m) ≡ keys_of m
  keys_of-enabled = fin.same_map serials_total serials_exact _ _ (λ q. get-keys_of (map_values enabled m) q ∙ asked key_in still q ∙ sym (get-keys_of m q))
    where
      still : (o : Option AdmittedSerial) → key_in (option_map enabled o) ≡ key_in o
      still None = refl
      still (Some a) = refl

  pub disabled_of-enabled : disabled_of (map_values enabled m) ≡ set.empty
  disabled_of-enabled = same_sets _ _ (λ q.
      contains-disabled_of (map_values enabled m) q ∙ ap disabled_in (get-map_values serial_cmp enabled m q) ∙ by_admission (fin.get m q) ∙ sym (set.contains-empty serial_cmp q))
    where
      by_admission : (o : Option AdmittedSerial) → disabled_in (option_map enabled o) ≡ false
      by_admission None = refl
      by_admission (Some a) = refl
