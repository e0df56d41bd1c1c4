use Rattle.std.proofs.Common.{◌≡◌, ◌∷◌, refl, sym, ◌∙◌}
use Rattle.gp_lines.specs.Parts.{parts_of}
use Rattle.gp_lines.proofs.AskedLemmas.{turn_cut}
use Rattle.gp_lines.proofs.turn.any_turn.Goals as goal

pub returns-in-Some : goal.returns-in-Some
returns-in-Some c =
    let apart : parts_of c.args.text.now ≡ c.cut.result.0.now ∷ parts_of c.in-Some.rest.now = rw (c.cut.ensures, c.in-Some.is) refl in
    c.begun_turn.ensures ∙ sym (turn_cut c.args.mask c.args.text.now c.cut.result.0.now c.in-Some.rest.now apart)
