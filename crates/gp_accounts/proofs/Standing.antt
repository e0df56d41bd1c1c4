-- Where marks stand, and how they grow receipt by receipt and worker by worker.
use Rattle.std.proofs.Common.{◌≡◌, ◌≢◌, ◌<◌, ◌+◌, ◌-◌, ℕ, List, [], ◌∷◌, zero, suc, length, count_by, sum_by, map, take, get_or, set, inl, inr, refl, sym, ap, ◌∙◌, arith}
use Rattle.std.specs.Prelude.{Some, slice_get}
use Rattle.std.proofs.lemmas.List.{get_or-set_other, take-map, get_or-map, length-map}
use Rattle.std.proofs.lemmas.List.Sums.{sum_by-cons, sum_by_more}
use Rattle.std.proofs.lemmas.Bool.{cases_lt}
use Rattle.std.proofs.lemmas.Bool.Decides.{eqb_tells}
use Rattle.std.proofs.lemmas.Grind.{get_or-set_at}
use Rattle.std.proofs.lemmas.Option.{same_Some, slice_get_within}
use Rattle.gp_machine.specs.declared.entry.Receipt.{Receipt}
use Rattle.gp_journal.specs.Kept.{History}
use Rattle.gp_accounts.specs.Accounted.{names, times_named, IsNamed, IsOnce}
use Rattle.gp_accounts.specs.Places.{entries_before, entry_count, IsPlaceOf, GrowBy, IsNamedAgain}
use Rattle.gp_accounts.proofs.Marks.{some_same, count_yes, count_no_port, count_no_number, count_front, entry_within}

-- ---- where marks stand

abbrev size : History → ℕ
size h = length h.entries

before_next : (x : History) (hs : List History) (port : ℕ) → entries_before (x ∷ hs) (suc port) ≡ length x.entries + entries_before hs port
before_next x hs port = sum_by-cons (λ (h : History). length h.entries) x (take port hs)

before_none : (hs : List History) → entries_before hs zero ≡ 0
before_none hs = refl

count_next : (x : History) (hs : List History) → entry_count (x ∷ hs) ≡ length x.entries + entry_count hs
count_next x hs = sum_by-cons (λ (h : History). length h.entries) x hs

-- a port more
pub before_more : {J : Type 0} (f : J → History) (js : List J) (i : ℕ) (d : J) → i < length js
    → entries_before (map f js) (i + 1) ≡ entries_before (map f js) i + length (f (get_or js i d)).entries
before_more f js i d l =
    sum_by_more (λ (h : History). length h.entries) (map f js) i (f d) (rw (length-map js f) l)
    ∙ ap (λ (h : History). entries_before (map f js) i + length h.entries) (get_or-map f js i d (f d) l)

-- each mark is one of them
pub below : (hs : List History) (port at : ℕ) (h : History) → slice_get hs port ≡ Some h → at < length h.entries
    → entries_before hs port + at < entry_count hs
below [] port at h is l = absurd (omega (arith, slice_get_within [] port h is))
below (x ∷ hs) zero at h is l = omega (arith, l, before_none (x ∷ hs), ap size (same_Some x h is), count_next x hs)
below (x ∷ hs) (suc port) at h is l = omega (arith, below hs port at h is l, before_next x hs port, count_next x hs)

-- no two entries have the same mark
pub apart : (hs : List History) (p q k j : ℕ) (h g : History) → slice_get hs p ≡ Some h → slice_get hs q ≡ Some g → k < length h.entries → j < length g.entries
    → entries_before hs p + k ≡ entries_before hs q + j → (p ≡ q) × (k ≡ j)
apart [] p q k j h g hp hq lk lj e = absurd (omega (arith, slice_get_within [] p h hp))
apart (x ∷ hs) zero zero k j h g hp hq lk lj e = (refl, omega (arith, e))
apart (x ∷ hs) zero (suc q) k j h g hp hq lk lj e = absurd (omega (arith, lk, before_none (x ∷ hs), ap size (same_Some x h hp), before_next x hs q, e))
apart (x ∷ hs) (suc p) zero k j h g hp hq lk lj e = absurd (omega (arith, lj, before_none (x ∷ hs), ap size (same_Some x g hq), before_next x hs p, e))
apart (x ∷ hs) (suc p) (suc q) k j h g hp hq lk lj e =
    let both = apart hs p q k j h g hp hq lk lj (omega (arith, e, before_next x hs p, before_next x hs q)) in
    (ap suc both.0, both.1)

-- the entry that has the mark at this place
pub record HasMark (hs : List History) (mark : ℕ) : Type 0 where
  pub port : ℕ
  pub at : ℕ
  pub history : History
  pub of : slice_get hs port ≡ Some history
  pub within : at < length history.entries
  pub is : mark ≡ entries_before hs port + at

-- each mark is that of an entry
pub has_mark : (hs : List History) (mark : ℕ) → mark < entry_count hs → HasMark hs mark
has_mark [] mark l = absurd (omega (arith, l))
has_mark (x ∷ hs) mark l =
    elim (cases_lt mark (length x.entries)) [
      | inl here ↦ record { port = zero; at = mark; history = x; of = refl; within = here; is = omega (arith, before_none (x ∷ hs)) }
      | inr past ↦
          let rest = has_mark hs (mark - length x.entries) (omega (arith, l, past, count_next x hs)) in
          record { port = suc rest.port; at = rest.at; history = rest.history; of = rest.of; within = rest.within; is = omega (arith, rest.is, past, before_next x hs rest.port) }
    ]

-- ---- the mark of a receipt

pub place_names : (hs : List History) (r : Receipt) (place : ℕ) → IsPlaceOf hs r place → IsNamed hs r
place_names hs r place p = record { history = p.history; of = p.of; entry = p.entry }

-- the mark of a receipt's entry is that of the entry with its number
pub record IsMarkOf (hs : List History) (r : Receipt) (place : ℕ) (h : History) : Type 0 where
  pub at : ℕ
  pub within : at < length h.entries
  pub number : r.number ≡ h.first + at
  pub is : place ≡ entries_before hs r.port + at

pub mark_of : (hs : List History) (r : Receipt) (place : ℕ) (p : IsPlaceOf hs r place) → IsMarkOf hs r place p.history
mark_of hs r place p =
    let in_it = entry_within p.history r.number r.entry p.entry in
    record {
      at = r.number - p.history.first;
      within = omega (arith, in_it.0, in_it.1);
      number = omega (arith, in_it.0);
      is = omega (arith, in_it.0, p.stands);
    }

pub place_below : (hs : List History) (r : Receipt) (place : ℕ) → IsPlaceOf hs r place → place < entry_count hs
place_below hs r place p =
    let m = mark_of hs r place p in
    omega (arith, m.is, below hs r.port m.at p.history p.of m.within)

-- ---- marks that grow

pub grow_none : (hs : List History) (before : List ℕ) → GrowBy hs [] before before
grow_none hs before port k h of l = omega arith

-- the mark of one receipt more is made
pub grow_more : (hs : List History) (before now : List ℕ) (rs : List Receipt) (i place : ℕ) (d : Receipt) → i < length rs → IsPlaceOf hs (get_or rs i d) place → place < length now → get_or now place 0 ≡ 0
    → GrowBy hs (take i rs) before now → GrowBy hs (take (i + 1) rs) before (set now place 1)
grow_more hs before now rs i place d l p within zero_here grown port k h of lk =
    let r : Receipt = get_or rs i d in
    let m = mark_of hs r place p in
    let same_history : r.port ≡ port → h ≡ p.history = λ on. some_same (slice_get hs port) h p.history of (ap (slice_get hs) (sym on) ∙ p.of) in
    elim (eqb_tells (entries_before hs port + k) place) [
      | inl e ↦
          let both = apart hs port r.port k m.at h p.history of p.of lk m.within (e.1 ∙ m.is) in
          let first : h.first ≡ p.history.first = ap (λ (w : History). w.first) (same_history (sym both.0)) in
          let number : r.number ≡ h.first + k = omega (arith, m.number, first, both.1) in
          let empty : get_or now (entries_before hs port + k) 0 ≡ 0 = ap (λ (n : ℕ). get_or now n 0) e.1 ∙ zero_here in
          omega (arith, get_or-set_at now place (entries_before hs port + k) 1 0 e.1 within, count_yes rs i d port (h.first + k) l (sym both.0) number, grown port k h of lk, empty)
      | inr e ↦
          let stays = get_or-set_other now place (entries_before hs port + k) 1 0 e.1 in
          elim (eqb_tells r.port port) [
            | inl on ↦
                let first : h.first ≡ p.history.first = ap (λ (w : History). w.first) (same_history on.1) in
                let begins : entries_before hs r.port ≡ entries_before hs port = ap (entries_before hs) on.1 in
                let differs : r.number ≢ h.first + k = λ same. e.1 (omega (arith, same, m.number, first, m.is, begins)) in
                omega (arith, stays, count_no_number rs i d port (h.first + k) l differs, grown port k h of lk)
            | inr off ↦ omega (arith, stays, count_no_port rs i d port (h.first + k) l off.1, grown port k h of lk)
          ]
    ]

-- a mark that is made already is of an entry that is named again
pub named_again : (hs : List History) (before now : List ℕ) (rs : List Receipt) (i place : ℕ) (d : Receipt) → i < length rs → IsPlaceOf hs (get_or rs i d) place → (get_or now place 0 ≡ 0 → ⊥)
    → GrowBy hs (take i rs) before now → IsNamedAgain hs rs before
named_again hs before now rs i place d l p some grown =
    let r : Receipt = get_or rs i d in
    let m = mark_of hs r place p in
    let here : get_or now place 0 ≡ get_or now (entries_before hs r.port + m.at) 0 = ap (λ (n : ℕ). get_or now n 0) m.is in
    record {
      port = r.port;
      place = m.at;
      history = p.history;
      of = p.of;
      within = m.within;
      again = omega (arith, some, here, grown r.port m.at p.history p.of m.within, count_yes rs i d r.port (p.history.first + m.at) l refl m.number, count_front rs (i + 1) r.port (p.history.first + m.at));
    }

-- ---- worker by worker

-- each mark is as many as the receipts of the first workers that name its entry
abbrev pub Counts : {W : Type 0} → List History → (W → List Receipt) → List W → ℕ → List ℕ → Type 0
Counts hs f ws i marks = (port k : ℕ) (h : History) → slice_get hs port ≡ Some h → k < length h.entries → get_or marks (entries_before hs port + k) 0 ≡ times_named (map f (take i ws)) port (h.first + k)

times_more : {W : Type 0} (f : W → List Receipt) (ws : List W) (i : ℕ) (d : W) (port k : ℕ) → i < length ws
    → times_named (map f (take (i + 1) ws)) port k ≡ times_named (map f (take i ws)) port k + count_by (names port k) (f (get_or ws i d))
times_more {W} f ws i d port k l =
    let g : List Receipt → ℕ = count_by (names port k) in
    let ys : List (List Receipt) = map f ws in
    let short : i < length ys = rw (length-map ws f) l in
    let first : times_named (map f (take i ws)) port k ≡ sum_by g (take i ys) = ap (sum_by g) (sym (take-map f i ws)) in
    let next : times_named (map f (take (i + 1) ws)) port k ≡ sum_by g (take (i + 1) ys) = ap (sum_by g) (sym (take-map f (i + 1) ws)) in
    let item : g (get_or ys i (f d)) ≡ g (f (get_or ws i d)) = ap g (get_or-map f ws i d (f d) l) in
    omega (arith, first, next, item, sum_by_more g ys i (f d) short)

pub counts_more : {W : Type 0} (hs : List History) (f : W → List Receipt) (ws : List W) (i : ℕ) (d : W) (rs : List Receipt) (before after : List ℕ) → i < length ws → d ≡ get_or ws i d → rs ≡ f d
    → Counts hs f ws i before → GrowBy hs rs before after → Counts hs f ws (i + 1) after
counts_more hs f ws i d rs before after l is same counted grown port k h of lk =
    let told : count_by (names port (h.first + k)) (f (get_or ws i d)) ≡ count_by (names port (h.first + k)) rs =
    ap (λ w. count_by (names port (h.first + k)) (f w)) (sym is) ∙ ap (count_by (names port (h.first + k))) (sym same) in
    omega (arith, grown port k h of lk, counted port k h of lk, times_more f ws i d port (h.first + k) l, told)

-- where each mark is one, each entry is named once
pub ones_are_once : {W : Type 0} (hs : List History) (f : W → List Receipt) (ws : List W) (marks : List ℕ) → length marks ≡ entry_count hs
    → ((port k : ℕ) (h : History) → slice_get hs port ≡ Some h → k < length h.entries → get_or marks (entries_before hs port + k) 0 ≡ times_named (map f ws) port (h.first + k))
    → ((k : ℕ) → k < length marks → get_or marks k 0 ≡ 1) → (port : ℕ) → IsOnce hs (map f ws) port
ones_are_once hs f ws marks count counted ones port = record {
  in_history = λ h of. record {
    once = λ k l. sym (counted port k h of l) ∙ ones (entries_before hs port + k) (omega (arith, count, below hs port k h of l));
  };
}

-- and the other way round
pub once_are_ones : {W : Type 0} (hs : List History) (f : W → List Receipt) (ws : List W) (marks : List ℕ) → length marks ≡ entry_count hs
    → ((port k : ℕ) (h : History) → slice_get hs port ≡ Some h → k < length h.entries → get_or marks (entries_before hs port + k) 0 ≡ times_named (map f ws) port (h.first + k))
    → ((port : ℕ) → IsOnce hs (map f ws) port) → (k : ℕ) → k < length marks → get_or marks k 0 ≡ 1
once_are_ones hs f ws marks count counted once n l =
    let m = has_mark hs n (omega (arith, count, l)) in
    ap (λ (j : ℕ). get_or marks j 0) m.is ∙ counted m.port m.at m.history m.of m.within ∙ ((once m.port).in_history m.history m.of).once m.at m.within
