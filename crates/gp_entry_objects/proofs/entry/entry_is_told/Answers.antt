use Rattle.gp_entry_objects.proofs.LineLemmas.{line_told}
use Rattle.gp_entry_objects.proofs.entry.entry_is_told.Goals as goal

pub returns : goal.returns
returns c =
    line_told c.args.mask c.args.told c.args.receipt.now (rw c.from.ensures at c.is_small.ensures) c.is_small-2.ensures c.event_holds.ensures c.reply_holds.ensures
    c.sent_holds.ensures c.grant_holds.ensures
