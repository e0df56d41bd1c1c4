use Rattle.std.proofs.Common.{rules, w64, SFits}
use Rattle.std.proofs.lemmas.Int.{to_z-of_z}
use Rattle.gp_script.proofs.values.in_range_or.Goals as goal

pub returns-in-None : goal.returns-in-None
returns-in-None c = record { value = rw c.in-None.is; within = (c.requires.from, c.requires.to) }

pub returns-in-Some : goal.returns-in-Some
returns-in-Some c =
    let fits : SFits w64 c.in-Some.number = search rules in
    record {
      value = rw c.in-Some.is (rw (to_z-of_z w64 c.in-Some.number fits) at c.in_range.ensures.value);
      within = c.in_range.ensures.within;
    }
