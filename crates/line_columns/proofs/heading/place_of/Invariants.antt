use Rattle.std.proofs.Common.{◌≡◌, ℕ, ◌<◌, false}
use Rattle.line_columns.specs.Heading.{is_named}
use Rattle.line_columns.proofs.heading.place_of.Given as goal

abbrev pub invariant-places : goal.invariant-places
invariant-places l = (other : ℕ) → other < l.place → is_named l.separator l.name l.heading other ≡ false
