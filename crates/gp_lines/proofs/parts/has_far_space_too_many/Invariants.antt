use Rattle.std.proofs.Common.{◌≡◌, ◌+◌, ◌||◌, drop, slice_index}
use Rattle.gp_lines.specs.Parts.{is_space, parts_of, has_space_too_many}
use Rattle.gp_lines.proofs.PartsLemmas.{many_behind}
use Rattle.gp_lines.proofs.parts.has_far_space_too_many.Given as goal

abbrev pub invariant-octets : goal.invariant-octets
invariant-octets l =
    (l.many || many_behind (is_space (slice_index l.text l.at)) (drop (l.at + 1) l.text)) ≡ has_space_too_many (parts_of l.text)
