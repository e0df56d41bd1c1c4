use Rattle.std.proofs.Common.{rules}
use Rattle.gp_licence.proofs.book.LicenceBook.free.Goals as goal

pub returns-clause-free : goal.returns-clause-free
returns-clause-free g c = search rules
