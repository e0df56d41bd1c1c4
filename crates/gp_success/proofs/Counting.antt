-- What is counted of the units by their rows when one row is put; a free ONU-ID where there are few rows.
use Rattle.std.proofs.Common.{◌≡◌, ℕ, zero, suc, ◌+◌, ◌<◌, ◌≤◌, ◌==◌, ◌||◌, not, Bool, true, false, cond, List, [], ◌∷◌, map, length, Option, None, Some, inl, inr, refl, sym, ap, ◌∙◌, arith}
use Rattle.std.specs.List.{list_any}
use Rattle.std.specs.FinMap.{get, insert, entries, find, get-insert, get-entries, len-entries}
use Rattle.std.specs.Ordering.{eq_by_cmp}
use Rattle.std.proofs.lemmas.Bool.{cases_Bool, eq-eqb, eqb-true, ne_eqb, false≢true}
use Rattle.gp_ploam.specs.declared.message.Serial.{Serial}
use Rattle.gp_ploam.specs.Serials.{serial_cmp, same_serial, is_among}
use Rattle.gp_ploam.proofs.Serials.{serials_total, by_cmp-same, same_serial-true, same_serial-itself}
use Rattle.gp_unit.specs.declared.row.Row.{Row}
use Rattle.gp_machine.specs.Config.{is_distinct}
use Rattle.gp_machine.specs.State.{PortState, Rows, has_free_onu, rows_of, cooling_of}
use Rattle.gp_machine.proofs.FreeNumbers.{has_free}
use Rattle.gp_machine.proofs.Walks.{both_true}
use Rattle.gp_success.proofs.LinkedUnits.{OnFibre, total_by}

-- ---- one row is put

pub at_put : (rows : Rows) (s : Serial) (row : Row) (t : Serial) → get (insert rows s row) t ≡ cond (same_serial t s) (Some row) (get rows t)
at_put rows s row t = get-insert serials_total rows s row t ∙ ap (λ b. cond b (Some row) (get rows t)) (by_cmp-same t s)

pub at_others : (rows : Rows) (s : Serial) (row : Row) (t : Serial) → same_serial t s ≡ false → get (insert rows s row) t ≡ get rows t
at_others rows s row t other = at_put rows s row t ∙ ap (λ b. cond b (Some row) (get rows t)) other

pub same_either : (a b : Serial) (e : Bool) → same_serial a b ≡ e → same_serial b a ≡ e
same_either a b true is = let one = same_serial-true a b is in ap (λ (t : Serial). same_serial t a) (sym one) ∙ same_serial-itself a
same_either a b false is =
    elim (cases_Bool (same_serial b a)) [
      | inl at ↦ let one = same_serial-true b a at in absurd (false≢true (sym is ∙ ap (λ (t : Serial). same_serial a t) one ∙ same_serial-itself a))
      | inr out ↦ out
    ]

serials : List OnFibre → List Serial
serials xs = map (λ (x : OnFibre). x.serial) xs

module _ (g : Option Row → ℕ) (rows : Rows) (s : Serial) (row : Row) where
  pub total_others : (xs : List OnFibre) → is_among s (map (λ (x : OnFibre). x.serial) xs) ≡ false → total_by g (insert rows s row) xs ≡ total_by g rows xs
  total_others [] none = refl
  total_others (x ∷ xs) none = by (λ rest. total_others xs rest) (same_serial s x.serial) refl
    where
      by : (is_among s (map (λ (x : OnFibre). x.serial) xs) ≡ false → total_by g (insert rows s row) xs ≡ total_by g rows xs) → (b : Bool) → same_serial s x.serial ≡ b
          → total_by g (insert rows s row) (x ∷ xs) ≡ total_by g rows (x ∷ xs)
      by more true is = absurd (false≢true (sym none ∙ ap (λ (b : Bool). b || is_among s (map (λ (x : OnFibre). x.serial) xs)) is))
      by more false is =
          let rest : is_among s (map (λ (x : OnFibre). x.serial) xs) ≡ false = sym (ap (λ (b : Bool). b || is_among s (map (λ (x : OnFibre). x.serial) xs)) is) ∙ none in
          let here = ap g (at_others rows s row x.serial (same_either s x.serial false is)) in
          let later = more rest in
          omega arith

  pub total_put : (xs : List OnFibre) → is_distinct (map (λ (x : OnFibre). x.serial) xs) ≡ true → is_among s (map (λ (x : OnFibre). x.serial) xs) ≡ true
      → total_by g (insert rows s row) xs + g (get rows s) ≡ total_by g rows xs + g (Some row)
  total_put [] distinct there = absurd (false≢true there)
  total_put (x ∷ xs) distinct there = by (λ among. total_put xs (both_true _ _ distinct).1 among) (same_serial s x.serial) refl
    where
      by : (is_among s (map (λ (x : OnFibre). x.serial) xs) ≡ true → total_by g (insert rows s row) xs + g (get rows s) ≡ total_by g rows xs + g (Some row)) → (b : Bool) → same_serial s x.serial ≡ b
          → total_by g (insert rows s row) (x ∷ xs) + g (get rows s) ≡ total_by g rows (x ∷ xs) + g (Some row)
      by later true is =
          let one : s ≡ x.serial = same_serial-true s x.serial is in
          let alone : is_among s (map (λ (x : OnFibre). x.serial) xs) ≡ false = ap (λ (t : Serial). is_among t (map (λ (x : OnFibre). x.serial) xs)) one ∙ not_true _ (both_true _ _ distinct).0 in
          let others = total_others xs alone in
          let here : g (get (insert rows s row) x.serial) ≡ g (Some row) = ap g (at_put rows s row x.serial ∙ ap (λ (b : Bool). cond b (Some row) (get rows x.serial)) (same_either s x.serial true is)) in
          let its : g (get rows s) ≡ g (get rows x.serial) = ap (λ (t : Serial). g (get rows t)) one in
          omega arith
        where
          not_true : (b : Bool) → not b ≡ true → b ≡ false
          not_true true h = sym h
          not_true false h = refl
      by later false is =
          let rest : is_among s (map (λ (x : OnFibre). x.serial) xs) ≡ true = sym (ap (λ (b : Bool). b || is_among s (map (λ (x : OnFibre). x.serial) xs)) is) ∙ there in
          let here = ap g (at_others rows s row x.serial (same_either s x.serial false is)) in
          let more = later rest in
          omega arith

-- ---- a number that none of few others is

abbrev pub is_in : ℕ → List ℕ → Bool
is_in n ns = list_any (λ k. n == k) ns

without : ℕ → List ℕ → List ℕ
without n [] = []
without n (k ∷ ks) = cond (n == k) (without n ks) (k ∷ without n ks)

no_longer : (n : ℕ) (ks : List ℕ) → length (without n ks) ≤ length ks
unfolding without
no_longer n [] = omega arith
no_longer n (k ∷ ks) =
    elim (n == k) as (λ b. length (cond b (without n ks) (k ∷ without n ks)) ≤ length (k ∷ ks)) [
      | true ↦ let rest = no_longer n ks in omega arith
      | false ↦ let rest = no_longer n ks in omega arith
    ]

shorter : (n : ℕ) (ks : List ℕ) → is_in n ks ≡ true → length (without n ks) < length ks
unfolding without
shorter n [] h = absurd (false≢true h)
shorter n (k ∷ ks) h = by (λ rest. shorter n ks rest) (n == k) h
  where
    by : (is_in n ks ≡ true → length (without n ks) < length ks) → (b : Bool) → (b || is_in n ks) ≡ true → length (cond b (without n ks) (k ∷ without n ks)) < length (k ∷ ks)
    by later true h = let rest = no_longer n ks in omega arith
    by later false h = let rest = later h in omega arith

still_out : (n m : ℕ) (ks : List ℕ) → (n ≡ m → ⊥) → is_in n (without m ks) ≡ false → is_in n ks ≡ false
unfolding without
still_out n m [] other h = refl
still_out n m (k ∷ ks) other h = by (λ rest. still_out n m ks other rest) (m == k) refl h
  where
    by : (is_in n (without m ks) ≡ false → is_in n ks ≡ false) → (b : Bool) → m == k ≡ b → is_in n (cond b (without m ks) (k ∷ without m ks)) ≡ false → is_in n (k ∷ ks) ≡ false
    by later true is h =
        let one = eqb-true m k is in
        let differs : n == k ≡ false = ne_eqb n k (λ e. other (e ∙ sym one)) in
        ap (λ (b : Bool). b || is_in n ks) differs ∙ later h
    by later false is h = by_head (n == k) refl
      where
        by_head : (b : Bool) → n == k ≡ b → is_in n (k ∷ ks) ≡ false
        by_head true at = absurd (false≢true (sym h ∙ ap (λ (b : Bool). b || is_in n (without m ks)) at))
        by_head false out = ap (λ (b : Bool). b || is_in n ks) out ∙ later (sym (ap (λ (b : Bool). b || is_in n (without m ks)) out) ∙ h)

pub hole : (many : ℕ) (ks : List ℕ) → length ks < many → (n : ℕ) × (n < many) × (is_in n ks ≡ false)
hole zero ks few = absurd (omega arith)
hole (suc many) ks few = by (λ h. hole many (without many ks) h) (is_in many ks) refl
  where
    by : (length (without many ks) < many → (n : ℕ) × (n < many) × (is_in n (without many ks) ≡ false)) → (b : Bool) → is_in many ks ≡ b → (n : ℕ) × (n < suc many) × (is_in n ks ≡ false)
    by later false out = (many, omega arith, out)
    by later true there =
        let less = shorter many ks there in
        let found = later (omega arith) in
        let low = found.1 in
        (found.0, omega arith, still_out found.0 many ks (λ e. omega arith) found.2)

-- ---- a free ONU-ID

numbers : List (Serial × Row) → List ℕ
numbers es = map (λ (e : Serial × Row). e.1.onu) es

found_in : (es : List (Serial × Row)) (s : Serial) (row : Row) → find serial_cmp s es ≡ Some row → is_in row.onu (map (λ (e : Serial × Row). e.1.onu) es) ≡ true
found_in [] s row h = absurd (none h)
  where
    none : ◌≡◌ {A = Option Row} None (Some row) → ⊥
    none e = cc
found_in (e ∷ es) s row h = by (λ rest. found_in es s row rest) (eq_by_cmp serial_cmp s e.0) h
  where
    one : Some e.1 ≡ Some row → e.1 ≡ row
    one h = cc

    or_true : (b : Bool) → (b || true) ≡ true
    or_true true = refl
    or_true false = refl

    by : (find serial_cmp s es ≡ Some row → is_in row.onu (map (λ (e : Serial × Row). e.1.onu) es) ≡ true) → (b : Bool) → cond b (Some e.1) (find serial_cmp s es) ≡ Some row
        → is_in row.onu (map (λ (e : Serial × Row). e.1.onu) (e ∷ es)) ≡ true
    by later true h =
        let same : row.onu ≡ e.1.onu = ap (λ (q : Row). q.onu) (sym (one h)) in
        ap (λ (b : Bool). b || is_in row.onu (map (λ (e : Serial × Row). e.1.onu) es)) (eq-eqb row.onu e.1.onu same)
    by later false h = ap (λ (b : Bool). (row.onu == e.1.onu) || b) (later h) ∙ or_true (row.onu == e.1.onu)

length-numbers : (es : List (Serial × Row)) → length (map (λ (e : Serial × Row). e.1.onu) es) ≡ length es
length-numbers [] = refl
length-numbers (e ∷ es) = ap suc (length-numbers es)

pub some_free : (p : PortState) → rows_of p < p.config.max_units → rows_of p < 254 → ((n : ℕ) → cooling_of p n ≡ 0) → has_free_onu p ≡ true
some_free p room few cool =
    let many = len-entries p.rows in
    let same = length-numbers (entries p.rows) in
    let free = hole 254 (map (λ (e : Serial × Row). e.1.onu) (entries p.rows)) (omega arith) in
    has_free p free.0
    (record {
      low = free.1;
      room = room;
      unused = λ s row has is.
          false≢true
          (sym free.2 ∙ ap (λ (n : ℕ). is_in n (map (λ (e : Serial × Row). e.1.onu) (entries p.rows))) (sym is) ∙ found_in (entries p.rows) s row (sym (get-entries p.rows s) ∙ has));
      warm = cool free.0;
    })
