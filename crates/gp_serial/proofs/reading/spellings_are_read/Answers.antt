use Rattle.gp_serial.proofs.SpellingLemmas.{Spells-serial_of_text, serial_of_text-Spells, HasFault-serial_of_text, serial_of_text-HasFault}
use Rattle.gp_serial.proofs.reading.spellings_are_read.Goals as goal

pub returns-clause-spelling : goal.returns-clause-spelling
returns-clause-spelling c = λ text serial. (Spells-serial_of_text text serial, serial_of_text-Spells text serial)

pub returns-clause-fault : goal.returns-clause-fault
returns-clause-fault c = λ text f. (HasFault-serial_of_text text f, serial_of_text-HasFault text f)
