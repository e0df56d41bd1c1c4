use Rattle.gp_decode.proofs.LawLemmas.{down_stays, up_stays}
use Rattle.gp_decode.proofs.laws.named_rows_stay.Goals as goal

pub returns : goal.returns
returns c = record { down = down_stays; up = up_stays }
