use Rattle.std.proofs.Common.{ℕ, ap, ◌∙◌, take, drop}
use Rattle.line_columns.proofs.CutLemmas.{cut_is}
use Rattle.line_columns.proofs.text.cut.Goals as goal

pub returns : goal.returns
returns c = λ is place. cut_is is c.args.text.now c.split_at.result.0.now c.split_at.result.1.now c.args.at place
    (c.split_at.ensures.front ∙ ap (λ (n : ℕ). take n c.args.text.now) c.unwrap_or.ensures)
    (c.split_at.ensures.back ∙ ap (λ (n : ℕ). drop n c.args.text.now) c.unwrap_or.ensures)
