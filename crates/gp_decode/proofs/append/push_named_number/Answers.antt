use Rattle.std.proofs.Common.{◌++◌, codes, decimal, append_assoc}
use Rattle.gp_decode.proofs.Appending.{appends_no_first, appends_second, appends_slice}
use Rattle.gp_decode.proofs.append.push_named_number.Goals as goal

pub returns-in_err-extend_from_slice : goal.returns-in_err-extend_from_slice
returns-in_err-extend_from_slice c =
    let e = c.extend_from_slice.ensures in
    appends_no_first _ c.args.name.now (codes " " ++ decimal c.args.number) _ _ _ _ c.in_err-extend_from_slice.field-0.0 _
    (append_assoc c.args.name.now (codes " ") (decimal c.args.number))
    c.in_err-extend_from_slice.was c.from_residual.ensures.1 (appends_slice _ c.args.name.now _ _ _ c.as_bytes.ensures.value e.items e.capacity e.full)

pub returns : goal.returns
returns c =
    let e = c.extend_from_slice.ensures in
    appends_second _ c.args.name.now (codes " " ++ decimal c.args.number) _ _ _ _ _ c.in_ok-extend_from_slice.field-0
    (append_assoc c.args.name.now (codes " ") (decimal c.args.number))
    c.in_ok-extend_from_slice.was (appends_slice _ c.args.name.now _ _ _ c.as_bytes.ensures.value e.items e.capacity e.full) c.push_numbered.ensures
