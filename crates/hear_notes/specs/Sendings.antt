-- How what was sent last about each thing is kept, and how often (this profile's own rule).
use Rattle.hear_rules.specs.Facts as facts
use Rattle.hear_rules.specs.Copies as copies
use Rattle.hear_rules.specs.Units as units
use Rattle.hear_notes.specs.declared.sending.Another.{Another}
use Rattle.hear_notes.specs.declared.sending.Another.TheVariants as another
use Rattle.hear_notes.specs.declared.sending.Sending.{Sending}
use Rattle.hear_notes.specs.declared.sending.Sending.TheVariants as sending
use Rattle.hear_notes.specs.declared.sending.Tally.{Tally}
use Rattle.hear_notes.specs.declared.sending.Tally.TheVariants as tally

-- whether it is another message, what was sent last, and how often, to the definitions
abbrev pub another_of : Another → facts.Sure
another_of another.Yes = facts.Yes
another_of another.No = facts.No
another_of another.Unsure = facts.Unsure

abbrev pub sending_of : Sending → copies.Sending
sending_of sending.Cut = copies.Cut
sending_of sending.Silent = copies.Silent
sending_of (sending.Once message at) = copies.Once message at
sending_of (sending.Twice message at) = copies.Twice message at
sending_of (sending.Said message) = copies.Said message

abbrev pub tally_of : Tally → units.Tally
tally_of tally.Untold = units.Untold
tally_of (tally.Told message before times last) = units.Told message before times last
