use Rattle.gp_storm.proofs.storming.lines_of.Goals as goal

pub returns : goal.returns
returns c = rw (c.from.ensures, c.from-2.ensures, c.from-3.ensures) at c.format.ensures.ok
