use Rattle.std.proofs.Common.{rules}
use Rattle.std.proofs.lemmas.Str.{IsUtf8-from_ascii}
use Rattle.gp_serial.proofs.text.SerialText.as_str.Goals as goal

pub unreachable-requires : goal.unreachable-requires
unreachable-requires c = c.in-Err.ensures.cases.0 (IsUtf8-from_ascii c.as_bytes.result.now c.as_bytes.ensures.ascii)

pub returns : goal.returns
returns c = search rules
