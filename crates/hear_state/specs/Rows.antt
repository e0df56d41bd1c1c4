-- What is known of an ONU-ID, as the code has it (this profile's own rule).
use Rattle.hear_rules.specs.Facts as facts
use Rattle.hear_rules.specs.Known as known
use Rattle.hear_state.specs.declared.facts.Fact.{Fact}
use Rattle.hear_state.specs.declared.facts.Fact.TheVariants as fact
use Rattle.hear_state.specs.declared.rows.Span.{Span}
use Rattle.hear_state.specs.declared.rows.Span.TheVariants as span
use Rattle.hear_state.specs.declared.rows.Row.{Row}
use Rattle.hear_state.specs.declared.rows.Row.TheVariants as row
use Rattle.hear_state.specs.Facts.{fact_of}

-- delays, what a unit said, and an ONU-ID, to the definitions
abbrev pub span_of : Span → known.Span
span_of span.Bare = known.Bare
span_of (span.Between least greatest) = known.Between least greatest

abbrev pub answers_of : Fact Span → facts.Fact known.Span
answers_of fact.Unknown = facts.Unknown
answers_of fact.Nothing = facts.Nothing
answers_of (fact.Is span) = facts.Is (span_of span)

abbrev pub number_of : Row → known.Number
number_of row.Unheard = known.Unheard
number_of row.Nobodys = known.Nobodys
number_of (row.Of serial delay answers) = known.Of serial (fact_of delay) (answers_of answers)

-- a row that says nothing
abbrev pub unheard_row : Row
unheard_row = row.Unheard

-- a row once nobody holds its ONU-ID
abbrev pub dropped_row : Row → Row
dropped_row _ = row.Nobodys

-- a row once it isn't known whether its unit has its delay still
abbrev pub popped_up_row : Row → Row
popped_up_row row.Unheard = row.Unheard
popped_up_row row.Nobodys = row.Nobodys
popped_up_row (row.Of serial fact.Nothing answers) = row.Of serial fact.Nothing answers
popped_up_row (row.Of serial (fact.Is delay) answers) = row.Of serial fact.Unknown answers
popped_up_row (row.Of serial fact.Unknown answers) = row.Of serial fact.Unknown answers
