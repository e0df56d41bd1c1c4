use Rattle.std.proofs.Common.{◌≡◌, length}
use Rattle.gp_check.specs.Lines.{has_long_text}
use Rattle.gp_check.proofs.lines.has_long_text.Given as goal

abbrev pub invariant-loop-text : goal.invariant-loop-text
invariant-loop-text l = has_long_text l.text ≡ has_long_text l.initial.text

abbrev pub decreases-loop-text : goal.decreases-loop-text
decreases-loop-text l = length l.text
