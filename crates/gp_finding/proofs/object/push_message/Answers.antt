use Rattle.std.proofs.Common.{sym, ◌∙◌}
use Rattle.gp_finding.proofs.Telling.{null_told, quoted_words}
use Rattle.gp_finding.proofs.object.push_message.Goals as goal

pub returns-else-is_garbled : goal.returns-else-is_garbled
returns-else-is_garbled c =
    quoted_words c.args.said.now _ _ _ _ _ c.requires (sym c.if-is_garbled.false ∙ c.is_garbled.ensures) c.push_quoted.ensures

pub returns-then-is_garbled : goal.returns-then-is_garbled
returns-then-is_garbled c =
    null_told _ _ _ _ (sym c.if-is_garbled.true ∙ c.is_garbled.ensures) c.push_pieces.ensures
