use Rattle.std.proofs.Common.{rules}
use Rattle.gp_explain.proofs.RunLemmas.{runs_silent}
use Rattle.gp_explain.proofs.line.push_run.Goals as goal

pub returns-then-not-is_code : goal.returns-then-not-is_code
returns-then-not-is_code c =
    runs_silent c.args.mask c.args.place c.args.part.now c.args.run.now c.args.behind.now c.args.out.now.items (search rules) c.requires.ends
