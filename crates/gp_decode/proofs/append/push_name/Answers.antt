use Rattle.std.proofs.Common.{◌++◌, codes, decimal, append_assoc}
use Rattle.hex.specs.Hex.{encode_lower}
use Rattle.gp_decode.proofs.Appending.{appends_no_first, appends_second}
use Rattle.gp_decode.proofs.append.push_name.Goals as goal

pub returns-in_err-push_named_number : goal.returns-in_err-push_named_number
returns-in_err-push_named_number c =
    appends_no_first _ _ (codes " " ++ encode_lower c.args.body.now) _ _ _ _ c.in_err-push_named_number.field-0.0 _
    (append_assoc (c.args.name.now ++ codes " " ++ decimal c.args.octet1) (codes " ") (encode_lower c.args.body.now))
    c.in_err-push_named_number.was c.from_residual.ensures.1 (rw c.from.ensures at c.push_named_number.ensures)

pub returns : goal.returns
returns c =
    appends_second _ _ (codes " " ++ encode_lower c.args.body.now) _ _ _ _ _ c.in_ok-push_named_number.field-0
    (append_assoc (c.args.name.now ++ codes " " ++ decimal c.args.octet1) (codes " ") (encode_lower c.args.body.now))
    c.in_ok-push_named_number.was (rw c.from.ensures at c.push_named_number.ensures) c.push_octets.ensures
