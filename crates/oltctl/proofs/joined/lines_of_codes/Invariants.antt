use Rattle.std.proofs.Common.{◌≡◌, take}
use Rattle.std.specs.List.{flat_map}
use Rattle.oltctl.specs.Joined.{line_of_code}
use Rattle.oltctl.proofs.joined.lines_of_codes.Given as goal

abbrev pub invariant-codes : goal.invariant-codes
invariant-codes l = l.text.items ≡ flat_map (λ code. line_of_code l.word code.now) (take l.code-index l.codes)
