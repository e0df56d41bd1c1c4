use Rattle.std.proofs.Common.{◌≡◌, ◌<◌, ◌≤◌, ◌+◌, ◌-◌, ℕ, Bool, List, length, map, get_or, take, sym, ap, subst, ◌∙◌, arith}
use Rattle.std.specs.Prelude.{All, Some, slice_get, IsTrue, option_map, ◌↔◌}
use Rattle.std.proofs.lemmas.List.{get_or-map, length-map, take_all}
use Rattle.std.proofs.lemmas.List.Elements.{All-map}
use Rattle.std.proofs.lemmas.Option.{slice_get_within, slice_get-map}
use Rattle.gp_journal.specs.Kept.{History, entry_in}
use Rattle.gp_machine.specs.declared.entry.Receipt.{Receipt}
use Rattle.gp_accounts.proofs.Marks.{entry_within, twice_refutes}
use Rattle.gp_accounts.proofs.Standing.{Counts, ones_are_once, once_are_ones}
use Rattle.gp_accounts.specs.Places.{AreStarts, IsPlaceOf, IsNamedAgain, entries_before, entry_count}
use Rattle.gp_accounts.specs.Accounted.{IsNamed, times_named, Rises, IsOnce, Accounted}

pub all_unmap : {W : Type 0} (f : W → List Receipt) (P : List Receipt → Type 0) (ws : List W) → All P (map f ws) → All (λ w. P (f w)) ws
all_unmap f P ws h k d l = subst P (get_or-map f ws k d (f d) l) (h k (f d) (rw (length-map ws f) l))

pub accounted_if : {W : Type 0} (f : W → List Receipt) (js : List History) (ws : List W) → All (λ w. All (IsNamed js) (f w)) ws → All (λ w. Rises (f w)) ws
    → ((port : ℕ) → IsOnce js (map f ws) port) → Accounted js (map f ws)
accounted_if f js ws named rising once = record {
  named = All-map (All (IsNamed js)) f ws named;
  rising = All-map Rises f ws rising;
  once = once;
}

-- the entry's mark stands as far behind the first one of its port as the entry behind the first one of its history
pub place_is : {J : Type 0} (f : J → History) (js : List J) (starts : List ℕ) (r : Receipt) (place first : ℕ) (j : J) → slice_get js r.port ≡ Some j → first ≡ (f j).first → AreStarts (map f js) starts
    → entry_in (f j) r.number ≡ Some r.entry → place ≡ get_or starts r.port 0 + (r.number - first) → IsPlaceOf (map f js) r place
place_is {J} f js starts r place first j is begins are entry sum =
    let there : slice_get (map f js) r.port ≡ Some (f j) = slice_get-map f js r.port ∙ ap (option_map f) is in
    let start = are.each r.port (slice_get_within _ _ _ there) in
    let in_it = entry_within (f j) r.number r.entry entry in
    record { history = f j; of = there; entry = entry; stands = omega (arith, sum, start, begins, in_it.0) }

-- a worker whose next receipts are refused tells of other steps
pub refused_refutes : {W : Type 0} (hs : List History) (f : W → List Receipt) (ws : List W) (i : ℕ) (d : W) (rs : List Receipt) (marks : List ℕ) → i < length ws → d ≡ get_or ws i d → rs ≡ f d
    → Counts hs f ws i marks → (All (IsNamed hs) rs → Rises rs → IsNamedAgain hs rs marks) → Accounted hs (map f ws) → ⊥
refused_refutes hs f ws i d rs marks l is same counted refused h =
    let here : f (get_or ws i d) ≡ rs = ap f (sym is) ∙ sym same in
    let named = subst (All (IsNamed hs)) here (all_unmap f (All (IsNamed hs)) ws h.named i d l) in
    let rising = subst Rises here (all_unmap f Rises ws h.rising i d l) in
    let again = refused named rising in
    twice_refutes f ws i d again.port (again.history.first + again.place) (get_or marks (entries_before hs again.port + again.place) 0) rs l is same
    (counted again.port again.place again.history again.of again.within) again.again
    (((h.once again.port).in_history again.history again.of).once again.place again.within)

-- once all workers have marked, the marks are all one just where all is accounted for
pub ones_tell : {W : Type 0} (hs : List History) (f : W → List Receipt) (ws : List W) (i : ℕ) (marks : List ℕ) (b : Bool) → length ws ≤ i → length marks ≡ entry_count hs
    → All (λ w. All (IsNamed hs) (f w)) (take i ws) → All (λ w. Rises (f w)) (take i ws) → Counts hs f ws i marks → (IsTrue b ↔ ((k : ℕ) → k < length marks → get_or marks k 0 ≡ 1))
    → (IsTrue b ↔ Accounted hs (map f ws))
ones_tell {W} hs f ws i marks b long count named rising counted tells =
    let all : take i ws ≡ ws = take_all i ws long in
    let counted_all : (port k : ℕ) (h : History) → slice_get hs port ≡ Some h → k < length h.entries → get_or marks (entries_before hs port + k) 0 ≡ times_named (map f ws) port (h.first + k) =
    λ port k h of l. counted port k h of l ∙ ap (λ (w : List W). times_named (map f w) port (h.first + k)) all in (
      λ t. accounted_if f hs ws (subst (All (λ w. All (IsNamed hs) (f w))) all named) (subst (All (λ w. Rises (f w))) all rising) (ones_are_once hs f ws marks count counted_all (tells.0 t)),
      λ h. tells.1 (once_are_ones hs f ws marks count counted_all h.once),
    )
