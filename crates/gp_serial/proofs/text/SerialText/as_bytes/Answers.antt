use Rattle.std.proofs.Common.{rules}
use Rattle.gp_serial.proofs.text.SerialText.as_bytes.Goals as goal

pub returns-clause-characters : goal.returns-clause-characters
returns-clause-characters c = search rules

pub returns-clause-ascii : goal.returns-clause-ascii
returns-clause-ascii c = search rules
