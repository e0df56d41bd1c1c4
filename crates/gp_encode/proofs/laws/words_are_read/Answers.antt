use Rattle.gp_encode.proofs.DownLemmas.{down_read}
use Rattle.gp_encode.proofs.UpLemmas.{up_read}
use Rattle.gp_encode.proofs.laws.words_are_read.Goals as goal

pub returns : goal.returns
returns c = record { down = down_read; up = up_read }
