use Rattle.std.proofs.Common.{rules}
use Rattle.gp_code_objects.proofs.DecodedLemmas.{stopped_line}
use Rattle.gp_code_objects.proofs.decoder.ObjectDecoderLineWork.line.Goals as goal

pub returns-in_err-put : goal.returns-in_err-put
returns-in_err-put g c =
    stopped_line {T = Unit {0}} c.args.self.now _ c.args.text.now c.as_slice.result.now c.in_ok-fault.fault _ _ _ _ (search rules) (search rules) (search rules) (search rules)
