use Rattle.std.proofs.Common.{rules}
use Rattle.gp_volley.proofs.queue.VolleyQueue.begin.Goals as goal

pub returns : goal.returns
returns c = search rules
