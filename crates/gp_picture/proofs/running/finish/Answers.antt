use Rattle.std.proofs.Common.{rules}
use Rattle.gp_picture.proofs.OutcomeLemmas.{ends_whole}
use Rattle.gp_picture.proofs.running.finish.Goals as goal

pub returns-in_ok-write_picture-in-None : goal.returns-in_ok-write_picture-in-None
returns-in_ok-write_picture-in-None g c =
    ends_whole c.args.options.now.frames c.args.drawer.now _ _ _ (search rules) (search rules) (search rules) (search rules) (search rules) (search rules)
    (search rules)
