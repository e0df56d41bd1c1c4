use Rattle.gp_serial.specs.Spelling.{text_of_serial}
use Rattle.gp_serial.proofs.text.text_spells_serial.Goals as goal

pub returns-clause-read_back : goal.returns-clause-read_back
returns-clause-read_back c = (c.spellings_are_read.ensures.spelling (text_of_serial c.args.serial.now) c.args.serial.now).1 c.octets_are_spelled.ensures
