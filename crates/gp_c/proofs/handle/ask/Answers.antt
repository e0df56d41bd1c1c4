use Rattle.gp_c.proofs.handle.ask.Goals as goal

pub returns : goal.returns
returns c = rw c.replace-2.ensures.after (rw c.replace.ensures.value at c.serve-next.ensures)
