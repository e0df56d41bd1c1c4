use Rattle.gp_decode.proofs.append.push_down.Goals as goal

pub returns-in-AssignAlloc : goal.returns-in-AssignAlloc
returns-in-AssignAlloc c = rw c.in-AssignAlloc.is (rw (c.from-onu.ensures, c.from-alloc.ensures) at c.push_alloc.ensures)
