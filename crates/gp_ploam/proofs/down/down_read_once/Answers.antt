use Rattle.std.proofs.Common.{take}
use Rattle.gp_ploam.proofs.DownRows.{down_reads_once}
use Rattle.gp_ploam.proofs.down.down_read_once.Goals as goal

pub returns : goal.returns
returns c code mask m n h k = down_reads_once (take 12 code) m n h.proper k.proper h.row k.row
