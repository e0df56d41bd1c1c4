use Rattle.gp_json.proofs.words.put_up_words.Goals as goal

pub returns-in-SerialNumber : goal.returns-in-SerialNumber
returns-in-SerialNumber c = rw c.in-SerialNumber.is c.put_unit_numbers.ensures

pub returns-in-DyingGasp : goal.returns-in-DyingGasp
returns-in-DyingGasp c = rw c.in-DyingGasp.is (rw c.from.ensures at c.put_numbered.ensures)

pub returns-in-NoMessage : goal.returns-in-NoMessage
returns-in-NoMessage c = rw c.in-NoMessage.is (rw c.from-in-NoMessage.ensures at c.put_numbered-in-NoMessage.ensures)
