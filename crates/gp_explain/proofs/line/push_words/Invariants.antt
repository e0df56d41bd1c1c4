use Rattle.std.proofs.Common.{length}
use Rattle.std.specs.Option.{option_copied}
use Rattle.gp_lines.specs.Parts.{parts_behind}
use Rattle.gp_explain.proofs.RunLemmas.{Pending}
use Rattle.gp_explain.proofs.line.push_words.Given as goal

abbrev pub invariant-parts : goal.invariant-parts
invariant-parts l = Pending l.fn.out.items l.mask l.text l.place (option_copied l.rest) l.out.items l.run

abbrev pub decreases-parts : goal.decreases-parts
decreases-parts l = length (parts_behind (option_copied l.rest))
