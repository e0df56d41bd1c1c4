use Rattle.std.proofs.Common.{◌++◌, codes}
use Rattle.gp_log.specs.Usual.{written}
use Rattle.gp_log.proofs.UsualLemmas.{traced_read}
use Rattle.gp_log.proofs.usual.read_burst.Goals as goal

pub returns-in-Some : goal.returns-in-Some
returns-in-Some c =
    traced_read c.args.text.now (codes "burst " ++ c.args.fields.now) c.in-Some.answer.now c.args.port c.in-Some.event
    (written c.event_line.result c.event_line.new.line) c.requires c.in-Some.ensures c.event_line.ensures
