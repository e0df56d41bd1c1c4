use Rattle.gp_stream.proofs.SinkLemmas.{gives_more}
use Rattle.gp_tell.proofs.EndingLemmas.{gives_short}
use Rattle.gp_tell.proofs.writing.pass_on.Goals as goal

pub returns-in_err-put : goal.returns-in_err-put
returns-in_err-put g c = gives_short _ _ _ c.args.kept.now c.args.part.now _ _ c.from_residual.ensures.1 c.in_err-put.ensures.gives

pub returns : goal.returns
returns g c = gives_more _ _ _ c.args.kept.now c.args.part.now _ c.put-2.result c.in_ok-put.ensures.gives c.put-2.ensures.gives
