use Rattle.std.proofs.Common.{◌≡◌, ◌∷◌, length}
use Rattle.std.specs.Option.{option_copied}
use Rattle.gp_lines.specs.Parts.{parts_behind, parts_of}
use Rattle.gp_tally.specs.Told.{kind_told}
use Rattle.gp_tally.proofs.alarm.kind_told.Given as goal

abbrev pub invariant-parts : goal.invariant-parts
invariant-parts l = kind_told (parts_of l.text) ≡ kind_told (l.part ∷ parts_behind (option_copied l.rest))

abbrev pub decreases-parts : goal.decreases-parts
decreases-parts l = length (parts_behind (option_copied l.rest))
