use Rattle.std.proofs.Common.{take}
use Rattle.gp_ploam.proofs.UpRows.{up_reads_once}
use Rattle.gp_ploam.proofs.up.up_read_once.Goals as goal

pub returns : goal.returns
returns c code mask m n h k = up_reads_once (take 12 code) m n h.proper k.proper h.row k.row
