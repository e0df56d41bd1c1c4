use Rattle.gp_decode.proofs.Digits.{octets_spelled}
use Rattle.gp_code_objects.proofs.spelled.code_in.Goals as goal

pub returns-in-Some-clause-code : goal.returns-in-Some-clause-code
returns-in-Some-clause-code c = octets_spelled c.args.text.now c.in-Some.code c.in-Some.ensures.octets
