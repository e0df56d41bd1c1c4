use Rattle.std.proofs.Common.{take}
use Rattle.gp_journal.specs.Replays.{LeadsTo}
use Rattle.gp_journal.proofs.replaying.follow_all.Given as goal

abbrev pub invariant-loop-entry : goal.invariant-loop-entry
invariant-loop-entry l = LeadsTo l.initial.follower (take l.entry-index l.entries) l.follower
