use Rattle.std.proofs.Common.{◌++◌, codes, decimal, append_assoc}
use Rattle.gp_serial.specs.Spelling.{text_of_serial}
use Rattle.gp_decode.proofs.Appending.{appends_no_first, appends_second}
use Rattle.gp_decode.proofs.append.push_unit.Goals as goal

pub returns-in_err-push_numbered : goal.returns-in_err-push_numbered
returns-in_err-push_numbered c =
    appends_no_first _ _ (codes " " ++ text_of_serial c.args.serial.now) _ _ _ _ c.in_err-push_numbered.field-0.0 _
    (append_assoc (c.args.word.now ++ decimal c.args.onu) (codes " ") (text_of_serial c.args.serial.now))
    c.in_err-push_numbered.was c.from_residual.ensures.1 (rw (c.from.ensures) at c.push_numbered.ensures)

pub returns : goal.returns
returns c =
    appends_second _ _ (codes " " ++ text_of_serial c.args.serial.now) _ _ _ _ _ c.in_ok-push_numbered.field-0
    (append_assoc (c.args.word.now ++ decimal c.args.onu) (codes " ") (text_of_serial c.args.serial.now))
    c.in_ok-push_numbered.was (rw (c.from.ensures) at c.push_numbered.ensures) c.push_serial.ensures
