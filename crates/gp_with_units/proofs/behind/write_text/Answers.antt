use Rattle.std.proofs.Common.{rules}
use Rattle.gp_with_units.proofs.Written.{text_part}
use Rattle.gp_with_units.proofs.behind.write_text.Goals as goal

pub returns-clause-part : goal.returns-clause-part
returns-clause-part g c = text_part _ _ _ _ c.args.text.now (search rules) c.in_ok-write_all.ensures.all c.flush.ensures.bytes
