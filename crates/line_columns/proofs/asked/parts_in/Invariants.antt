use Rattle.std.proofs.Common.{◌≡◌}
use Rattle.line_columns.specs.Asked.{parts_in, texts_of, with_parts}
use Rattle.line_columns.specs.AskedParts.{octets_left, parts_left}
use Rattle.line_columns.proofs.asked.parts_in.Given as goal

-- what is left counts behind the parts so far
abbrev pub invariant-parts : goal.invariant-parts
invariant-parts l = parts_in l.fn.text ≡ with_parts (texts_of l.parts) (parts_left l.left)

abbrev pub decreases-parts : goal.decreases-parts
decreases-parts l = octets_left l.left
