use Rattle.gp_transcribe.proofs.BackLemmas.{trace_read_back}
use Rattle.gp_transcribe.proofs.laws.written_lines_are_read.Goals as goal

pub returns : goal.returns
returns c = trace_read_back
