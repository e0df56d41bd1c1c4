use Rattle.std.proofs.Common.{rules}
use Rattle.gp_code_objects.proofs.EncodedLemmas.{stopped_long_line}
use Rattle.gp_code_objects.proofs.encoder.ObjectEncoderLineWork.long_line.Goals as goal

pub returns-in_err-put : goal.returns-in_err-put
returns-in_err-put g c =
    stopped_long_line {T = Unit {0}} c.args.self.now _ c.as_slice.result.now _ _ _ _ (search rules) (search rules) (search rules)
