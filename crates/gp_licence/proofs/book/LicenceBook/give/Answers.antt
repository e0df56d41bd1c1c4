use Rattle.std.proofs.Common.{rules}
use Rattle.gp_licence.proofs.book.LicenceBook.give.Goals as goal

pub invariant_of-self : goal.invariant_of-self
invariant_of-self g c = search rules

pub returns-in-Some-clause-free : goal.returns-in-Some-clause-free
returns-in-Some-clause-free g c = search rules
