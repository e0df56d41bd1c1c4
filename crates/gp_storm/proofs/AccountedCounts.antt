-- What is counted of entries is what is counted of the receipts that account for them.
use Rattle.std.proofs.Common.{◌≡◌, ◌≢◌, ◌<◌, ◌≤◌, ◌+◌, ◌-◌, ℕ, Bool, true, false, cond, List, [], ◌∷◌, length, map, inl, inr, refl, sym, ap, ◌∙◌, arith, suc, zero}
use Rattle.std.specs.Prelude.{All, Some, None, count_by, sum_by, slice_get, nat_lt, if◌then◌else◌}
use Rattle.std.proofs.lemmas.List.Sums.{sum_by-cons}
use Rattle.std.proofs.lemmas.List.Elements.{All-head, All-tail}
use Rattle.std.proofs.lemmas.Bool.{cases_lt}
use Rattle.std.proofs.lemmas.Bool.Decides.{nat_tests}
use Rattle.gp_machine.specs.declared.event.Event.{Event}
use Rattle.gp_machine.specs.declared.entry.Entry.{Entry}
use Rattle.gp_machine.specs.declared.entry.Receipt.{Receipt}
use Rattle.gp_journal.specs.Kept.{History, entry_in}
use Rattle.gp_accounts.specs.Accounted.{Accounted, IsNamed, names, times_named}

-- ---- entries, each as often as its number says

abbrev weigh : (Event → Bool) → (ℕ → ℕ) → ℕ → List Entry → ℕ
weigh p times number [] = 0
weigh p times number (e ∷ es) = cond (p e.event) (times number) 0 + weigh p times (number + 1) es

-- each once
weigh_ones : (p : Event → Bool) (times : ℕ → ℕ) (number : ℕ) (es : List Entry) → ((place : ℕ) → place < length es → times (number + place) ≡ 1)
    → weigh p times number es ≡ count_by (λ (e : Entry). p e.event) es
weigh_ones p times number [] once = refl
weigh_ones p times number (e ∷ es) once =
    let here : times number ≡ 1 = ap times (omega arith) ∙ once 0 (omega arith) in
    let first : cond (p e.event) (times number) 0 ≡ cond (p e.event) 1 0 = ap (λ (n : ℕ). cond (p e.event) n 0) here in
    let rest = weigh_ones p times (number + 1) es (λ place l. ap times (omega arith) ∙ once (place + 1) (omega (arith, l))) in
    omega (arith, first, rest, sum_by-cons (λ (e : Entry). cond (p e.event) 1 0) e es)

cond_add : (b : Bool) (m n : ℕ) → cond b (m + n) 0 ≡ cond b m 0 + cond b n 0
cond_add true m n = refl
cond_add false m n = refl

weigh_add : (p : Event → Bool) (f g h : ℕ → ℕ) (number : ℕ) (es : List Entry) → ((n : ℕ) → f n ≡ g n + h n) → weigh p f number es ≡ weigh p g number es + weigh p h number es
weigh_add p f g h number [] is = refl
weigh_add p f g h number (e ∷ es) is =
    let first : cond (p e.event) (f number) 0 ≡ cond (p e.event) (g number + h number) 0 = ap (λ (n : ℕ). cond (p e.event) n 0) (is number) in
    omega (arith, first, cond_add (p e.event) (g number) (h number), weigh_add p f g h (number + 1) es is)

cond_zero : (b : Bool) (n : ℕ) → n ≡ 0 → cond b n 0 ≡ 0
cond_zero true n none = none
cond_zero false n none = refl

weigh_zero : (p : Event → Bool) (f : ℕ → ℕ) (number : ℕ) (es : List Entry) → ((n : ℕ) → number ≤ n → f n ≡ 0) → weigh p f number es ≡ 0
weigh_zero p f number [] none = refl
weigh_zero p f number (e ∷ es) none =
    let first = cond_zero (p e.event) (f number) (none number (omega arith)) in
    omega (arith, first, weigh_zero p f (number + 1) es (λ n l. none n (omega (arith, l))))

-- just the one entry with the number
weigh_one : (p : Event → Bool) (f : ℕ → ℕ) (number k : ℕ) (es : List Entry) (e : Entry) → slice_get es k ≡ Some e → f (number + k) ≡ 1 → ((n : ℕ) → n ≢ number + k → f n ≡ 0)
    → weigh p f number es ≡ cond (p e.event) 1 0
weigh_one p f number k [] e at one none = let w : None ≡ Some e = at in cc
weigh_one p f number zero (x ∷ es) e at one none =
    let same : x ≡ e = cc in
    let here : f number ≡ 1 = ap f (omega arith) ∙ one in
    let first : cond (p x.event) (f number) 0 ≡ cond (p e.event) 1 0 = ap (λ (n : ℕ). cond (p x.event) n 0) here ∙ ap (λ (y : Entry). cond (p y.event) 1 0) same in
    omega (arith, first, weigh_zero p f (number + 1) es (λ n l. none n (λ is. omega (arith, l, is))))
weigh_one p f number (suc k) (x ∷ es) e at one none =
    let here : f number ≡ 0 = none number (λ is. omega (arith, is)) in
    let first = cond_zero (p x.event) (f number) here in
    let next : slice_get es k ≡ Some e = at in
    let rest = weigh_one p f (number + 1) k es e next (ap f (omega arith) ∙ one) (λ n differs. none n (λ is. differs (omega (arith, is)))) in
    omega (arith, first, rest)

-- ---- the entries of all ports

abbrev pub entries_of : History → List Entry
entries_of h = h.entries

abbrev weigh_ports : (Event → Bool) → (ℕ → ℕ → ℕ) → ℕ → List History → ℕ
weigh_ports p times port [] = 0
weigh_ports p times port (h ∷ hs) = weigh p (times port) h.first h.entries + weigh_ports p times (port + 1) hs

ports_ones : (p : Event → Bool) (times : ℕ → ℕ → ℕ) (port : ℕ) (hs : List History)
    → ((k : ℕ) (h : History) → slice_get hs k ≡ Some h → (place : ℕ) → place < length h.entries → times (port + k) (h.first + place) ≡ 1)
    → weigh_ports p times port hs ≡ sum_by (count_by (λ (e : Entry). p e.event)) (map entries_of hs)
ports_ones p times port [] once = refl
ports_ones p times port (h ∷ hs) once =
    let here = weigh_ones p (times port) h.first h.entries (λ place l. ap (λ (q : ℕ). times q (h.first + place)) (omega arith) ∙ once 0 h refl place l) in
    let rest = ports_ones p times (port + 1) hs (λ k g at place l. ap (λ (q : ℕ). times q (g.first + place)) (omega arith) ∙ once (suc k) g at place l) in
    omega (arith, here, rest, sum_by-cons (count_by (λ (e : Entry). p e.event)) h.entries (map entries_of hs))

ports_add : (p : Event → Bool) (f g h : ℕ → ℕ → ℕ) (port : ℕ) (hs : List History) → ((q n : ℕ) → f q n ≡ g q n + h q n)
    → weigh_ports p f port hs ≡ weigh_ports p g port hs + weigh_ports p h port hs
ports_add p f g h port [] is = refl
ports_add p f g h port (x ∷ hs) is =
    omega (arith, weigh_add p (f port) (g port) (h port) x.first x.entries (is port), ports_add p f g h (port + 1) hs is)

ports_zero : (p : Event → Bool) (f : ℕ → ℕ → ℕ) (port : ℕ) (hs : List History) → ((q n : ℕ) → port ≤ q → f q n ≡ 0) → weigh_ports p f port hs ≡ 0
ports_zero p f port [] none = refl
ports_zero p f port (x ∷ hs) none =
    omega (arith, weigh_zero p (f port) x.first x.entries (λ n _. none port n (omega arith)), ports_zero p f (port + 1) hs (λ q n l. none q n (omega (arith, l))))

-- just the one entry on the port with the number
ports_one : (p : Event → Bool) (f : ℕ → ℕ → ℕ) (port k number : ℕ) (hs : List History) (h : History) (e : Entry) → slice_get hs k ≡ Some h → entry_in h number ≡ Some e
    → f (port + k) number ≡ 1 → ((q n : ℕ) → q ≢ port + k → f q n ≡ 0) → ((q n : ℕ) → n ≢ number → f q n ≡ 0)
    → weigh_ports p f port hs ≡ cond (p e.event) 1 0
ports_one p f port k number [] h e at is one no_port no_number = let w : None ≡ Some h = at in cc
ports_one p f port zero number (x ∷ hs) h e at is one no_port no_number =
    let same : x ≡ h = cc in
    let found : entry_in x number ≡ Some e = ap (λ (w : History). entry_in w number) same ∙ is in
    let place = place_of x number e found in
    let here = weigh_one p (f port) x.first (number - x.first) x.entries e place.1 (ap (λ (n : ℕ). f port n) (omega (arith, place.0)) ∙ ap (λ (q : ℕ). f q number) (omega arith) ∙ one)
    (λ n differs. no_number port n (λ eq. differs (omega (arith, eq, place.0)))) in
    omega (arith, here, ports_zero p f (port + 1) hs (λ q n l. no_port q n (λ eq. omega (arith, eq, l))))
  where
    place_of : (h : History) (number : ℕ) (e : Entry) → entry_in h number ≡ Some e → (h.first ≤ number) × (slice_get h.entries (number - h.first) ≡ Some e)
    place_of h number e found =
        elim (cases_lt number h.first) [
          | inl low ↦
              let b : nat_lt number h.first ≡ true = grind (arith, nat_tests) in
              let none : None ≡ Some e = sym (ap (λ (t : Bool). if t then None else slice_get h.entries (number - h.first)) b) ∙ found in
              cc
          | inr high ↦
              let b : nat_lt number h.first ≡ false = grind (arith, nat_tests) in
              (high, sym (ap (λ (t : Bool). if t then None else slice_get h.entries (number - h.first)) b) ∙ found)
        ]
ports_one p f port (suc k) number (x ∷ hs) h e at is one no_port no_number =
    let here = weigh_zero p (f port) x.first x.entries (λ n _. no_port port n (λ eq. omega (arith, eq))) in
    let next : slice_get hs k ≡ Some h = at in
    let rest = ports_one p f (port + 1) k number hs h e next is (ap (λ (q : ℕ). f q number) (omega arith) ∙ one)
    (λ q n differs. no_port q n (λ eq. differs (omega (arith, eq)))) no_number in
    omega (arith, here, rest)

-- ---- receipts

one_receipt : (p : Event → Bool) (hs : List History) (r : Receipt) → IsNamed hs r → weigh_ports p (λ q n. cond (names q n r) 1 0) 0 hs ≡ cond (p r.entry.event) 1 0
one_receipt p hs r named =
    ports_one p (λ q n. cond (names q n r) 1 0) 0 r.port r.number hs named.history r.entry named.of named.entry
    (grind (arith, nat_tests)) (λ q n differs. grind (arith, nat_tests)) (λ q n differs. grind (arith, nat_tests))

receipts_count : (p : Event → Bool) (hs : List History) (rs : List Receipt) → All (IsNamed hs) rs
    → weigh_ports p (λ q n. count_by (names q n) rs) 0 hs ≡ count_by (λ (r : Receipt). p r.entry.event) rs
receipts_count p hs [] named = ports_zero p (λ q n. count_by (names q n) []) 0 hs (λ q n _. refl)
receipts_count p hs (r ∷ rs) named =
    let more = ports_add p (λ q n. count_by (names q n) (r ∷ rs)) (λ q n. cond (names q n r) 1 0) (λ q n. count_by (names q n) rs) 0 hs (λ q n. sum_by-cons (λ (x : Receipt). cond (names q n x) 1 0) r rs) in
    omega (
      arith,
      more,
      one_receipt p hs r (All-head (IsNamed hs) r rs named),
      receipts_count p hs rs (All-tail (IsNamed hs) r rs named),
      sum_by-cons (λ (x : Receipt). cond (p x.entry.event) 1 0) r rs,
    )

workers_count : (p : Event → Bool) (hs : List History) (ws : List (List Receipt)) → All (All (IsNamed hs)) ws
    → weigh_ports p (times_named ws) 0 hs ≡ sum_by (count_by (λ (r : Receipt). p r.entry.event)) ws
workers_count p hs [] named = ports_zero p (times_named []) 0 hs (λ q n _. refl)
workers_count p hs (rs ∷ ws) named =
    let more = ports_add p (times_named (rs ∷ ws)) (λ q n. count_by (names q n) rs) (times_named ws) 0 hs (λ q n. sum_by-cons (count_by (names q n)) rs ws) in
    omega (
      arith,
      more,
      receipts_count p hs rs (All-head (All (IsNamed hs)) rs ws named),
      workers_count p hs ws (All-tail (All (IsNamed hs)) rs ws named),
      sum_by-cons (count_by (λ (r : Receipt). p r.entry.event)) rs ws,
    )

-- of receipts and histories that account for one another as many entries as receipts have an event that passes
pub accounted_counts : (p : Event → Bool) (hs : List History) (ws : List (List Receipt)) → Accounted hs ws
    → sum_by (count_by (λ (e : Entry). p e.event)) (map entries_of hs) ≡ sum_by (count_by (λ (r : Receipt). p r.entry.event)) ws
accounted_counts p hs ws a =
    sym (ports_ones p (times_named ws) 0 hs (λ k h at place l. ap (λ (q : ℕ). times_named ws q (h.first + place)) (omega arith) ∙ ((a.once k).in_history h at).once place l))
    ∙ workers_count p hs ws a.named
