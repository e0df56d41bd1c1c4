use Rattle.std.proofs.Common.{append_assoc}
use Rattle.gp_check.proofs.text.wanted_text.Goals as goal

pub returns-in-Range : goal.returns-in-Range
returns-in-Range c = rw c.in-Range.is (simp append_assoc c.format.ensures.ok)

pub returns-in-Count : goal.returns-in-Count
returns-in-Count c = rw (c.in-Count.is, ← c.counted_text-counted.ensures) (simp append_assoc c.format-in-Count.ensures.ok)
