use Rattle.std.proofs.Common.{rules}
use Rattle.oltctl.proofs.JoinedLemmas.{joined_by}
use Rattle.oltctl.proofs.joined.joined.Goals as goal

pub returns : goal.returns
returns c =
    joined_by c.args.separator c.args.words.now _ c.in-Some.others.now c.extend_from_slice.new.self.items c.push_behind.new.text.items c.in-Some.ensures.cases.0 (search rules) (search rules)
