use Rattle.std.proofs.Common.{sym}
use Rattle.gp_log.proofs.UsualLemmas.{bare_frame}
use Rattle.gp_log.proofs.traced.frame_line.Goals as goal

pub returns-in-Some-empty : goal.returns-in-Some-empty
returns-in-Some-empty c = sym (bare_frame c.args.port c.args.answer.now c.in-Some-empty.field-0.now c.in-Some-empty.ensures c.in-Some-empty.len_below)
