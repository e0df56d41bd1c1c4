use Rattle.std.proofs.Common.{rules}
use Rattle.gp_serial.proofs.text.serial_text.Goals as goal

pub returns-clause-text : goal.returns-clause-text
returns-clause-text c = search rules

pub returns-clause-read_back : goal.returns-clause-read_back
returns-clause-read_back c = search rules
