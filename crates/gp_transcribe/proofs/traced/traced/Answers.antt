use Rattle.gp_transcribe.proofs.ReadLemmas.{traced_none, traced_some}
use Rattle.gp_transcribe.proofs.traced.traced.Goals as goal

pub returns-clause-some : goal.returns-clause-some
returns-clause-some c = traced_some c.args.text.now c.read_line.result c.line_of.result c.read_line.ensures c.line_of.ensures.some

pub returns-clause-none : goal.returns-clause-none
returns-clause-none c = traced_none c.args.text.now c.read_line.result c.line_of.result c.read_line.ensures c.line_of.ensures.none
