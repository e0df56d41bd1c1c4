use Rattle.gp_decode.proofs.append.push_up.Goals as goal

pub returns-in-SerialNumber : goal.returns-in-SerialNumber
returns-in-SerialNumber c = rw c.in-SerialNumber.is (rw (c.from-random.ensures, c.from-flags.ensures) at c.push_unit_numbers.ensures)
