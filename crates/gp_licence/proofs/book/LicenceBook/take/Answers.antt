use Rattle.std.proofs.Common.{rules}
use Rattle.gp_licence.proofs.book.LicenceBook.take.Goals as goal

pub invariant_of-self : goal.invariant_of-self
invariant_of-self g c = search rules

pub returns-clause-free : goal.returns-clause-free
returns-clause-free g c = search rules
