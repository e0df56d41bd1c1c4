-- How the timers are kept (this profile's own rule): a tree in which each node has the earlier of its two children. No
-- statement of another crate cites it.
-- Inside: no public contract cites this.
use Rattle.std.specs.Prelude.{ℕ, ◌+◌, ◌*◌, ◌^◌, ◌≡◌, ◌<◌, ◌==◌, ◌||◌, ◌&&◌, nat_lt, Bool, if◌then◌else◌, List, length, Option, None, Some, ◌≢◌}
use Rattle.std.specs.Option.{ForSome}
use Rattle.std.specs.List.{slice_index_or}
use Rattle.gp_timers.specs.declared.tournament.Timer.{Timer}

-- due in an earlier frame, or in the same frame under a lesser name
abbrev pub is_earlier : Timer → Timer → Bool
is_earlier a b = nat_lt a.frame b.frame || (a.frame == b.frame && nat_lt a.name b.name)

-- the earlier of two timers, where there are two
abbrev pub earlier_of : Option Timer → Option Timer → Option Timer
earlier_of None b = b
earlier_of (Some a) None = Some a
earlier_of (Some a) (Some b) = Some (if is_earlier b a then b else a)

-- the timer at a place of the tree, or none
abbrev pub timer_at : List (Option Timer) → ℕ → Option Timer
timer_at nodes place = slice_index_or nodes place None

-- the places from `names` on are the leaves, one for each name, with the timer of that name; each place below them,
-- from 1 on, has the earlier of the timers at twice its number and the place after that
pub record IsTournament (names : ℕ) (nodes : List (Option Timer)) : Type 0 where
  pub few : names < 2 ^ 16
  pub size : length nodes ≡ 2 * names
  pub leaf : (name : ℕ) → name < names → ForSome (timer_at nodes (names + name)) (λ timer. timer.name ≡ name)
  pub inner : (place : ℕ) → 0 < place → place < names
      → timer_at nodes place ≡ earlier_of (timer_at nodes (2 * place)) (timer_at nodes (2 * place + 1))

-- a tournament again, with another timer at one leaf
pub record IsRewritten (names : ℕ) (old new : List (Option Timer)) (name : ℕ) (timer : Option Timer) : Type 0 where
  pub tournament : IsTournament names new
  pub here : timer_at new (names + name) ≡ timer
  pub others : (other : ℕ) → other < names → other ≢ name → timer_at new (names + other) ≡ timer_at old (names + other)
