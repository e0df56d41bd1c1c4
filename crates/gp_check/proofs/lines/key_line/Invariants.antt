use Rattle.std.proofs.Common.{◌≡◌, ◌+◌, length, map}
use Rattle.gp_check.specs.Lines.{key_line}
use Rattle.gp_check.proofs.lines.key_line.Given as goal

abbrev pub invariant-loop-lines : goal.invariant-loop-lines
invariant-loop-lines l = record {
  line : key_line l.name l.number (map (λ line. line.now) l.lines) ≡ key_line l.name l.first (map (λ line. line.now) l.initial.lines);
  count : l.number + length l.lines ≡ l.first + length l.initial.lines;
}

abbrev pub decreases-loop-lines : goal.decreases-loop-lines
decreases-loop-lines l = length l.lines
