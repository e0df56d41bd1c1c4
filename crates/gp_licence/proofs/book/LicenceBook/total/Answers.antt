use Rattle.std.proofs.Common.{rules}
use Rattle.gp_licence.proofs.book.LicenceBook.total.Goals as goal

pub returns-clause-total : goal.returns-clause-total
returns-clause-total g c = search rules
