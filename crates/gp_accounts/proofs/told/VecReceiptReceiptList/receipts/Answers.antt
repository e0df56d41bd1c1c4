use Rattle.std.proofs.Common.{rules}
use Rattle.gp_accounts.proofs.told.VecReceiptReceiptList.receipts.Goals as goal

pub returns : goal.returns
returns c = search rules
