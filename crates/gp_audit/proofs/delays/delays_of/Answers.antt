use Rattle.std.proofs.Common.{List, ap, ◌∙◌, arith}
use Rattle.gp_audit.specs.Delays.{delays_after}
use Rattle.gp_audit.specs.Texts.{Text}
use Rattle.gp_audit.proofs.DelayLemmas.{text_told, text_wrong}
use Rattle.gp_audit.proofs.TextLemmas.{texts_from}
use Rattle.gp_audit.proofs.delays.delays_of.Goals as goal

pub returns-in_default : goal.returns-in_default
returns-in_default c =
    c.texts.invariant
    ∙ ap (λ (left : List Text). delays_after c.texts.delays left) (texts_from c.args.told.now c.texts.text-index _ (omega (arith, c.texts-test.true)))
    ∙ text_wrong c.texts.delays _ _ c.in_default.ensures

pub texts-preserved : goal.texts-preserved
texts-preserved c =
    c.texts.invariant
    ∙ ap (λ (left : List Text). delays_after c.texts.delays left) (texts_from c.args.told.now c.texts.text-index _ (omega (arith, c.texts-test.true)))
    ∙ text_told c.texts.delays c.in-Some.changed _ _ c.in-Some.ensures
