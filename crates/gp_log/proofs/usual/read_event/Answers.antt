use Rattle.gp_log.specs.Usual.{written}
use Rattle.gp_log.proofs.UsualLemmas.{traced_read}
use Rattle.gp_log.proofs.usual.read_event.Goals as goal

pub returns-in-Some : goal.returns-in-Some
returns-in-Some c =
    traced_read c.args.text.now c.args.told.now c.in-Some.answer.now c.args.port c.in-Some.event (written c.event_line.result c.event_line.new.line)
    c.requires.leads c.in-Some.ensures c.event_line.ensures
