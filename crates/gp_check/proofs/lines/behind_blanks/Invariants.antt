use Rattle.std.proofs.Common.{◌≡◌, length}
use Rattle.gp_check.specs.Lines.{behind_blanks}
use Rattle.gp_check.proofs.lines.behind_blanks.Given as goal

abbrev pub invariant-loop-text : goal.invariant-loop-text
invariant-loop-text l = behind_blanks l.text ≡ behind_blanks l.initial.text

abbrev pub decreases-loop-text : goal.decreases-loop-text
decreases-loop-text l = length l.text
