use Rattle.std.proofs.Common.{ap, ◌∙◌, ◌==◌, length, List, ℕ}
use Rattle.gp_log.proofs.NextLemmas.{over_told}
use Rattle.gp_log.proofs.fields.is_over.Goals as goal

pub returns : goal.returns
returns c = c.is_empty.ensures ∙ ap (λ (t : List ℕ). length t == 0) c.trimmed.ensures ∙ over_told c.args.text.now
