use Rattle.gp_json.proofs.words.put_down_words.Goals as goal

pub returns-in-AssignOnu : goal.returns-in-AssignOnu
returns-in-AssignOnu c = rw c.in-AssignOnu.is c.put_unit.ensures

pub returns-in-RangingTime : goal.returns-in-RangingTime
returns-in-RangingTime c = rw c.in-RangingTime.is (rw c.from.ensures at c.put_numbers.ensures)

pub returns-in-Deactivate : goal.returns-in-Deactivate
returns-in-Deactivate c = rw c.in-Deactivate.is (rw c.from-in-Deactivate.ensures at c.put_numbered.ensures)

pub returns-in-DisableSerial : goal.returns-in-DisableSerial
returns-in-DisableSerial c = rw c.in-DisableSerial.is c.put_serial.ensures

pub returns-in-EnableSerial : goal.returns-in-EnableSerial
returns-in-EnableSerial c = rw c.in-EnableSerial.is c.put_serial-in-EnableSerial.ensures

pub returns-in-AssignAlloc : goal.returns-in-AssignAlloc
returns-in-AssignAlloc c = rw c.in-AssignAlloc.is c.put_alloc.ensures
