use Rattle.std.proofs.Common.{rules, arith, ◌+◌, ◌∙◌}
use Rattle.line_columns.proofs.QuotedLemmas.{passed_other, passed_two}
use Rattle.line_columns.proofs.quoted.quoted.Goals as goal

pub octets-preserved-then-text-at-ne-MARK : goal.octets-preserved-then-text-at-ne-MARK
octets-preserved-then-text-at-ne-MARK c =
    (omega arith, c.octets.invariant.1 ∙ passed_other c.args.text.now c.octets.at _ (omega arith) (omega arith) (search rules))

pub octets-preserved : goal.octets-preserved
octets-preserved c =
    (omega arith, c.octets.invariant.1 ∙ passed_two c.args.text.now c.octets.at (c.octets.at + 1) (c.octets.at + 2) (omega arith) (omega arith) (omega arith) (search rules) (search rules))
