use Rattle.std.proofs.Common.{◌≡◌, rules}
use Rattle.gp_transcribe.specs.Transcribing.{counted}
use Rattle.gp_transcribe.proofs.ServingLemmas.{refused_line, stopped_line, untold_line, unwritten_line, written_as}
use Rattle.gp_transcribe.proofs.serving.TranscriberLineWork.line.Goals as goal

pub returns-in_err-transcribe_line : goal.returns-in_err-transcribe_line
returns-in_err-transcribe_line g c =
    let viewed : c.self.inside.frames ≡ c.args.self.now.frames = search rules in
    let full = untold_line c.args.self.now c.self.inside.frames c.args.text.now _ c.transcribe_line.result (search rules) viewed (search rules) c.transcribe_line.ensures.full in
    unwritten_line _ c.args.self.now _ _ _ _ (search rules) c.in_err-transcribe_line.ensures.error full

pub returns-then-not-branch : goal.returns-then-not-branch
returns-then-not-branch g c =
    refused_line _ _ c.args.text.now _ c.transcribe_line.new.frames c.self.inside.frames (search rules) (c.in_ok-transcribe_line.ensures.other (search rules))
    (c.in_ok-transcribe_line.ensures.kept (search rules)) (search rules) (search rules)

pub returns-in_err-put : goal.returns-in_err-put
returns-in_err-put g c =
    let writes = c.in_ok-transcribe_line.ensures.written (search rules) in
    stopped_line {T = Unit {0}} c.args.self.now _ (counted c.transcribe_line.new.frames c.args.self.now) c.transcribe_line.new.frames c.args.text.now c.as_slice.result.now _ _ _ _
    (search rules) (written_as c.args.self.now.frames _ c.args.text.now c.as_slice.result.now _ _ writes (search rules) (search rules)) (search rules) (search rules) (search rules)
