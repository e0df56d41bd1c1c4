use Rattle.std.proofs.Common.{rules}
use Rattle.gp_waves.proofs.WritingLemmas.{spilled_if}
use Rattle.gp_waves.proofs.writing.Writing.spill.Goals as goal

pub returns-clause-spilled : goal.returns-clause-spilled
returns-clause-spilled c =
    spilled_if c.drain.result c.args.waves.now.held c.args.self.now c.clear.new.self.items c.drain.new.waves.held c.drain.new.self c.drain.new.out.items (search rules)
    c.drain.ensures.drained
