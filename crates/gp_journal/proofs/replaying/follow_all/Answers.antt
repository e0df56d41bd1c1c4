use Rattle.std.proofs.Common.{refl}
use Rattle.gp_journal.proofs.Runs.{LeadsTo-more, LeadsTo-stops}
use Rattle.gp_journal.proofs.replaying.follow_all.Goals as goal

pub returns-then-not-follow-clause-refused : goal.returns-then-not-follow-clause-refused
returns-then-not-follow-clause-refused c last is run =
    LeadsTo-stops c.args.follower.now c.loop-entry.follower last c.args.entries.now c.loop-entry.entry-index c.entry-item.result c.loop-entry-test.true c.entry-item.is c.loop-entry.invariant
    (λ after step. c.if-not-follow.ensures.refused after refl step) run

pub loop-entry-preserved : goal.loop-entry-preserved
loop-entry-preserved c =
    let ensures = c.if-not-follow.ensures in
    LeadsTo-more c.args.follower.now c.loop-entry.follower c.follow.new.self c.args.entries.now c.loop-entry.entry-index c.entry-item.result c.loop-entry-test.true c.entry-item.is c.loop-entry.invariant
    (ensures.made refl) ensures.alone
