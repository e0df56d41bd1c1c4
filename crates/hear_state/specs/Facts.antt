-- What may be unknown, as the code has it (this profile's own rule).
use Rattle.hear_rules.specs.Facts as spec
use Rattle.hear_state.specs.declared.facts.Fact.{Fact}
use Rattle.hear_state.specs.declared.facts.Fact.TheVariants as fact
use Rattle.hear_state.specs.declared.facts.Sure.{Sure}
use Rattle.hear_state.specs.declared.facts.Sure.TheVariants as sure

-- whether something is so, to the definitions
abbrev pub sure_of : Sure → spec.Sure
sure_of sure.Yes = spec.Yes
sure_of sure.No = spec.No
sure_of sure.Unsure = spec.Unsure

-- a fact, to the definitions
abbrev pub fact_of : {X : Type 0} → Fact X → spec.Fact X
fact_of fact.Unknown = spec.Unknown
fact_of fact.Nothing = spec.Nothing
fact_of (fact.Is value) = spec.Is value
