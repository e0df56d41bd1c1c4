use Rattle.gp_encode.proofs.DownLemmas.{down_back}
use Rattle.gp_encode.proofs.UpLemmas.{up_back}
use Rattle.gp_encode.proofs.laws.words_come_back.Goals as goal

pub returns : goal.returns
returns c = record { down = down_back; up = up_back }
