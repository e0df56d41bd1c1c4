use Rattle.std.proofs.Common.{rules}
use Rattle.gp_licence.proofs.book.LicenceBook.close.Goals as goal

pub returns-clause-all : goal.returns-clause-all
returns-clause-all g c = search rules
