use Rattle.std.proofs.Common.{◌≡◌, ◌+◌, length, map}
use Rattle.gp_check.specs.Lines.{header_line}
use Rattle.gp_check.proofs.lines.header_line.Given as goal

abbrev pub invariant-loop-lines : goal.invariant-loop-lines
invariant-loop-lines l = record {
  line : header_line l.header l.left l.number (map (λ line. line.now) l.lines) ≡ header_line l.header l.place 1 (map (λ line. line.now) l.initial.lines);
  count : l.number + length l.lines ≡ length l.initial.lines + 1;
}

abbrev pub decreases-loop-lines : goal.decreases-loop-lines
decreases-loop-lines l = length l.lines
