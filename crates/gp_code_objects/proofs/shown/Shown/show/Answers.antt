use Rattle.gp_decode.specs.LineText.{code_digits}
use Rattle.gp_decode.proofs.Digits.{octets_stay}
use Rattle.gp_code_objects.proofs.shown.Shown.show.Goals as goal

pub returns-in-Some-octets_in : goal.returns-in-Some-octets_in
returns-in-Some-octets_in c =
    let spelled = c.in-Some.spelled.now in
    rw c.in-Some.ensures (c.put_code.ensures (code_digits spelled) (octets_stay spelled c.in-Some-octets_in.code c.in-Some-octets_in.ensures.octets))
