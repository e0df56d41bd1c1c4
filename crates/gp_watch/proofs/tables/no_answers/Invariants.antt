use Rattle.std.proofs.Common.{◌≡◌, ℕ, length, get_or, None}
use Rattle.gp_watch.proofs.tables.no_answers.Given as goal

-- so many places say nothing
abbrev pub invariant-loop : goal.invariant-loop
invariant-loop l = record {
  long : length l.places.items ≡ l.counter;
  none : (place : ℕ) → get_or l.places.items place None ≡ None;
}
