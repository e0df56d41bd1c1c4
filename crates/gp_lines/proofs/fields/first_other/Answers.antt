use Rattle.std.proofs.Common.{arith, ap, sym, ◌∙◌}
use Rattle.std.proofs.lemmas.List.{take_rest}
use Rattle.std.specs.List.{position}
use Rattle.gp_lines.specs.Leading.{is_other_than_zero}
use Rattle.gp_lines.proofs.ZeroLemmas.{zeros_more, other_some, other_none}
use Rattle.gp_lines.proofs.fields.first_other.Goals as goal

pub blocks-2-preserved : goal.blocks-2-preserved
blocks-2-preserved c =
    (omega arith, zeros_more c.args.text.now c.blocks-2.at _ 64 (omega arith) (omega arith) c.blocks-2.invariant.1 (sym c.are_zeros.ensures ∙ c.if-are_zeros.true))

pub returns-in-Some : goal.returns-in-Some
returns-in-Some c =
    other_some c.args.text.now c.blocks-2.at c.in-Some.more c.blocks-2.invariant.0 c.blocks-2.invariant.1
    (c.in-Some.ensures ∙ ap (position is_other_than_zero) (take_rest c.args.text.now c.blocks-2.at))

pub returns-in-None : goal.returns-in-None
returns-in-None c =
    other_none c.args.text.now c.blocks-2.at c.blocks-2.invariant.0 c.blocks-2.invariant.1
    (c.in-None.ensures ∙ ap (position is_other_than_zero) (take_rest c.args.text.now c.blocks-2.at))
