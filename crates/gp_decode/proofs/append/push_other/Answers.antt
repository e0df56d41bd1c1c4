use Rattle.std.proofs.Common.{◌++◌, codes, decimal, append_assoc}
use Rattle.hex.specs.Hex.{encode_lower}
use Rattle.gp_decode.proofs.Appending.{appends_no_first, appends_second}
use Rattle.gp_decode.proofs.append.push_other.Goals as goal

pub returns-in_err-push_numbers : goal.returns-in_err-push_numbers
returns-in_err-push_numbers c =
    appends_no_first _ _ (codes " " ++ encode_lower c.args.body.now) _ _ _ _ c.in_err-push_numbers.field-0.0 _
    (append_assoc (codes "Other " ++ decimal c.args.id ++ codes " " ++ decimal c.args.octet1) (codes " ") (encode_lower c.args.body.now))
    c.in_err-push_numbers.was c.from_residual.ensures.1 (rw (c.from.ensures, c.from-2.ensures) at c.push_numbers.ensures)

pub returns : goal.returns
returns c =
    appends_second _ _ (codes " " ++ encode_lower c.args.body.now) _ _ _ _ _ c.in_ok-push_numbers.field-0
    (append_assoc (codes "Other " ++ decimal c.args.id ++ codes " " ++ decimal c.args.octet1) (codes " ") (encode_lower c.args.body.now))
    c.in_ok-push_numbers.was (rw (c.from.ensures, c.from-2.ensures) at c.push_numbers.ensures) c.push_octets.ensures
