use Rattle.gp_decode.proofs.LawLemmas.{digits_stay}
use Rattle.gp_decode.proofs.laws.plain_digits_stay.Goals as goal

pub returns : goal.returns
returns c = digits_stay
