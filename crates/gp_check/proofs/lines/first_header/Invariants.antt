use Rattle.std.proofs.Common.{◌≡◌, ◌+◌, length, map}
use Rattle.gp_check.specs.Lines.{first_header}
use Rattle.gp_check.proofs.lines.first_header.Given as goal

abbrev pub invariant-loop-lines : goal.invariant-loop-lines
invariant-loop-lines l = record {
  line : first_header l.name l.line_number (map (λ line. line.now) l.lines) ≡ first_header l.name 1 (map (λ line. line.now) l.initial.lines);
  count : l.line_number + length l.lines ≡ 1 + length l.initial.lines;
}

abbrev pub decreases-loop-lines : goal.decreases-loop-lines
decreases-loop-lines l = length l.lines
