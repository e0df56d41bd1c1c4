use Rattle.gp_transcribe.proofs.OutcomeLemmas.{transcribed_as, unbegun, unread_as}
use Rattle.gp_transcribe.proofs.running.transcribe_trace.Goals as goal

pub returns-in_err-transcriber : goal.returns-in_err-transcriber
returns-in_err-transcriber g c = unbegun c.args.source.now c.args.sink.now _ c.from_residual.ensures.1

pub returns-in_err-run_lines : goal.returns-in_err-run_lines
returns-in_err-run_lines g c =
    unread_as _ _ _ _ _ c.in_ok-transcriber.transcriber c.run_lines.new.work _ c.in_ok-transcriber.ensures c.from_residual-in_err-run_lines.ensures.1 c.in_err-run_lines.ensures

pub returns : goal.returns
returns g c =
    transcribed_as _ _ _ _ _ c.in_ok-transcriber.transcriber c.run_lines.new.work _ _ _ c.in_ok-transcriber.ensures c.ended.ensures c.lines.ensures c.finding.ensures
    c.in_ok-run_lines.ensures.ok
