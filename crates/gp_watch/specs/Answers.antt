-- How the answers of a unit are kept: its delays in a list, in the order in which they came (this profile's own rule).
-- Inside: no public contract cites this.
use Rattle.std.specs.Prelude.{◌≡◌, ℕ, ◌≤◌, ◌==◌, ◌&&◌, if◌then◌else◌, Bool, List, take, Option, None, Some, refl}
use Rattle.std.specs.Ordering.{nat_cmp}
use Rattle.std.specs.Coded.{Coded, code_by, coded×, coded_ℕ, coded_bool}
use Rattle.std.specs.FinSet.{FinSet, from_list}
use Rattle.std.specs.FinSet as finset
use Rattle.gp_observer.specs.Watch.{Answers}

-- answers are stored as their two parts
abbrev pub answers_code : Coded Answers
answers_code =
    code_by (FinSet nat_cmp × Bool) (coded× (finset.code coded_ℕ) coded_bool) (λ a. (a.delays, a.all))
    (λ p. record { delays = p.0; all = p.1 }) (λ _. refl)

-- the first of the places
abbrev pub delays_of : List ℕ → ℕ → FinSet nat_cmp
delays_of places count = from_list (take count places)

-- what is known of the answers: where there is no delay, and all are known, there was none
abbrev pub answers_in : List ℕ → ℕ → Bool → Option Answers
answers_in places count all =
    if count == 0 && all then None else Some (record { delays = delays_of places count; all = all })

-- there is room for them, and no delay is kept twice
pub record AreApart (places : List ℕ) (count : ℕ) : Type 0 where
  pub room : count ≤ 64
  pub apart : finset.len (delays_of places count) ≡ count
