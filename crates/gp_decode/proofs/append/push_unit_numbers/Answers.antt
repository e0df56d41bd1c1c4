use Rattle.std.proofs.Common.{◌++◌, codes, decimal}
use Rattle.gp_serial.specs.Spelling.{text_of_serial}
use Rattle.gp_decode.proofs.Appending.{appends_no_first, appends_second, behind}
use Rattle.gp_decode.proofs.append.push_unit_numbers.Goals as goal

pub returns-in_err-push_unit : goal.returns-in_err-push_unit
returns-in_err-push_unit c =
    appends_no_first _ _ (codes " " ++ decimal c.args.first ++ codes " " ++ decimal c.args.second) _ _ _ _ c.in_err-push_unit.field-0.0 _
    (behind (c.args.word.now ++ decimal c.args.onu ++ codes " " ++ text_of_serial c.args.serial.now) (codes " ") (decimal c.args.first) (codes " ") (decimal c.args.second))
    c.in_err-push_unit.was c.from_residual.ensures.1 c.push_unit.ensures

pub returns : goal.returns
returns c =
    appends_second _ _ (codes " " ++ decimal c.args.first ++ codes " " ++ decimal c.args.second) _ _ _ _ _ c.in_ok-push_unit.field-0
    (behind (c.args.word.now ++ decimal c.args.onu ++ codes " " ++ text_of_serial c.args.serial.now) (codes " ") (decimal c.args.first) (codes " ") (decimal c.args.second))
    c.in_ok-push_unit.was c.push_unit.ensures c.push_numbers.ensures
