use Rattle.std.proofs.Common.{rules}
use Rattle.gp_tell.proofs.EndingLemmas.{ends_short}
use Rattle.gp_tell.proofs.writing.end_line.Goals as goal

pub returns-in_err-put : goal.returns-in_err-put
returns-in_err-put g c = ends_short c.args.long c.args.line.now _ c.args.telling.now _ c.args.telling.now _ _ _ c.from_residual.ensures.1 (search rules) c.in_err-put.ensures.gives.error

pub returns-in_err-put-2 : goal.returns-in_err-put-2
returns-in_err-put-2 g c = ends_short c.args.long c.args.line.now _ c.args.telling.now _ c.tell.new.self _ _ _ c.from_residual-in_err-put-2.ensures.1 (search rules) c.in_err-put-2.ensures.gives.error
