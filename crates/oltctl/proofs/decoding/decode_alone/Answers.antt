use Rattle.std.proofs.Common.{◌∙◌}
use Rattle.oltctl.proofs.Decoded.{decoded_fault}
use Rattle.oltctl.proofs.decoding.decode_alone.Goals as goal

pub returns-in-Err : goal.returns-in-Err
returns-in-Err g c =
    decoded_fault c.decode.result c.in-Err.fault c.in-Err.is c.args.code.now c.args.upstream c.args.mask c.args.names c.report.result c.decode.ensures.fault
    (c.report.ensures ∙ c.line_report.ensures.status)
