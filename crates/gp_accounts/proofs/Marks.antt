use Rattle.std.proofs.Common.{◌≡◌, ◌≢◌, ◌<◌, ◌≤◌, ◌+◌, ◌-◌, ℕ, Bool, true, false, List, length, count_by, sum_by, map, take, get_or, inl, inr, sym, ap, ◌∙◌, arith}
use Rattle.std.proofs.lemmas.List.Sums.{count_by_more_yes, count_by_more_no, sum_by_more, sum_by-take-drop}
use Rattle.std.proofs.lemmas.Bool.Decides.{nat_tests}
use Rattle.std.proofs.lemmas.Bool.{cases_lt}
use Rattle.std.proofs.lemmas.List.{take-map, get_or-map, length-map}
use Rattle.std.proofs.lemmas.Option.{slice_get_within}
use Rattle.std.specs.Prelude.{cond, slice_get, Option, Some, None, nat_lt, if◌then◌else◌}
use Rattle.gp_machine.specs.declared.entry.Entry.{Entry}
use Rattle.gp_journal.specs.Kept.{History, entry_in}
use Rattle.gp_machine.specs.declared.entry.Receipt.{Receipt}
use Rattle.gp_accounts.specs.Accounted.{names, times_named}

pub some_same : {X : Type 0} (o : Option X) (x y : X) → o ≡ Some x → o ≡ Some y → x ≡ y
some_same o x y p q = let e = sym p ∙ q in cc

names_yes : (port k : ℕ) (r : Receipt) → r.port ≡ port → r.number ≡ k → names port k r ≡ true
names_yes port k r p q = grind (arith, nat_tests)

names_no_port : (port k : ℕ) (r : Receipt) → r.port ≢ port → names port k r ≡ false
names_no_port port k r p = grind (arith, nat_tests)

names_no_number : (port k : ℕ) (r : Receipt) → r.number ≢ k → names port k r ≡ false
names_no_number port k r p = grind (arith, nat_tests)

pub count_yes : (rs : List Receipt) (i : ℕ) (d : Receipt) (port k : ℕ) → i < length rs → (get_or rs i d).port ≡ port → (get_or rs i d).number ≡ k
    → count_by (names port k) (take (i + 1) rs) ≡ count_by (names port k) (take i rs) + 1
count_yes rs i d port k l p q = count_by_more_yes (names port k) rs i d l (names_yes port k (get_or rs i d) p q)

pub count_no_port : (rs : List Receipt) (i : ℕ) (d : Receipt) (port k : ℕ) → i < length rs → (get_or rs i d).port ≢ port
    → count_by (names port k) (take (i + 1) rs) ≡ count_by (names port k) (take i rs)
count_no_port rs i d port k l p = count_by_more_no (names port k) rs i d l (names_no_port port k (get_or rs i d) p)

pub count_no_number : (rs : List Receipt) (i : ℕ) (d : Receipt) (port k : ℕ) → i < length rs → (get_or rs i d).number ≢ k
    → count_by (names port k) (take (i + 1) rs) ≡ count_by (names port k) (take i rs)
count_no_number rs i d port k l p = count_by_more_no (names port k) rs i d l (names_no_number port k (get_or rs i d) p)

pub count_front : (rs : List Receipt) (i port k : ℕ) → count_by (names port k) (take i rs) ≤ count_by (names port k) rs
count_front rs i port k = omega (arith, sum_by-take-drop (λ (r : Receipt). cond (names port k r) 1 0) rs i)

-- what the first workers and the next one name is at most what all name
pub times_front : {W : Type 0} (f : W → List Receipt) (ws : List W) (i : ℕ) (d : W) (port k : ℕ) → i < length ws
    → times_named (map f (take i ws)) port k + count_by (names port k) (f (get_or ws i d)) ≤ times_named (map f ws) port k
times_front f ws i d port k l =
    let g : List Receipt → ℕ = count_by (names port k) in
    let ys : List (List Receipt) = map f ws in
    let short : i < length ys = rw (length-map ws f) l in
    let first : times_named (map f (take i ws)) port k ≡ sum_by g (take i ys) = ap (sum_by g) (sym (take-map f i ws)) in
    let item : g (get_or ys i (f d)) ≡ g (f (get_or ws i d)) = ap g (get_or-map f ws i d (f d) l) in
    omega (arith, first, item, sum_by_more g ys i (f d) short, sum_by-take-drop g ys (i + 1))

-- what is named twice by the first workers and the next one is named twice by all
pub twice_refutes : {W : Type 0} (f : W → List Receipt) (ws : List W) (i : ℕ) (d : W) (port k m : ℕ) (rs : List Receipt) → i < length ws → d ≡ get_or ws i d → rs ≡ f d
    → m ≡ times_named (map f (take i ws)) port k → 1 < m + count_by (names port k) rs → times_named (map f ws) port k ≡ 1 → ⊥
twice_refutes f ws i d port k m rs l is same marked two one =
    let item : count_by (names port k) (f (get_or ws i d)) ≡ count_by (names port k) rs = ap (λ w. count_by (names port k) (f w)) (sym is) ∙ sym (ap (count_by (names port k)) same) in
    omega (arith, times_front f ws i d port k l, item)

-- an entry that is found lies within the history
pub entry_within : (h : History) (n : ℕ) (e : Entry) → entry_in h n ≡ Some e → (h.first ≤ n) × (n < h.first + length h.entries)
entry_within h n e is =
    elim (cases_lt n h.first) [
      | inl low ↦
          let b : nat_lt n h.first ≡ true = grind (arith, nat_tests) in
          let none : None ≡ Some e = sym (ap (λ (t : Bool). if t then None else slice_get h.entries (n - h.first)) b) ∙ is in
          cc
      | inr high ↦
          let b : nat_lt n h.first ≡ false = grind (arith, nat_tests) in
          let some : slice_get h.entries (n - h.first) ≡ Some e = sym (ap (λ (t : Bool). if t then None else slice_get h.entries (n - h.first)) b) ∙ is in
          let within = slice_get_within h.entries (n - h.first) e some in
          (high, omega (arith, within, high))
    ]
