use Rattle.gp_stream.proofs.SinkLemmas.{writes_whole}
use Rattle.gp_verify.specs.Ending.{end_text}
use Rattle.gp_verify.proofs.ending.write_end.Goals as goal

pub returns : goal.returns
returns g c =
    writes_whole _ _ _ (end_text c.args.form c.args.at_least c.args.found.now) _ c.finish.result c.in_ok-put_end.ensures c.finish.ensures
