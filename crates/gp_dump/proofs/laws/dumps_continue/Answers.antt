use Rattle.gp_dump.proofs.PartLemmas.{continues_more, put_continues}
use Rattle.gp_dump.proofs.laws.dumps_continue.Goals as goal

pub returns-clause-put : goal.returns-clause-put
returns-clause-put c = put_continues

pub returns-clause-more : goal.returns-clause-more
returns-clause-more c = continues_more
