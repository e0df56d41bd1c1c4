use Rattle.std.proofs.Common.{rules}
use Rattle.gp_verify.proofs.ReportLemmas.{explained}
use Rattle.gp_verify.proofs.verifier.Verifier.reason.Goals as goal

pub returns : goal.returns
returns g c =
    let told = c.in_ok-push_reason.ensures in
    explained c.args.self.now c.self.inside.mask _ c.args.text.now _ _ _ _ told.0 (search rules) c.left.ensures c.said.ensures c.without_feed.ensures c.new-reason.ensures.items told.1 told.2
