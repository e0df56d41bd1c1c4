use Rattle.std.proofs.Common.{sym, ap, ◌∙◌, Err}
use Rattle.gp_lines.specs.declared.fault.LineFault.{LineFault}
use Rattle.gp_lines.specs.Parts.{parts_of}
use Rattle.gp_lines.proofs.AskedLemmas.{spaced_again, spaced_refusal}
use Rattle.gp_lines.proofs.turn.spaced_turn.Goals as goal

pub returns-in-Ok : goal.returns-in-Ok
returns-in-Ok c = sym (spaced_again c.args.mask c.args.text.now c.in-Ok.asked (sym c.any_turn.ensures ∙ c.in-Ok.is))

pub returns-in-Err : goal.returns-in-Err
returns-in-Err c =
    ap (λ (f : LineFault). Err f) c.first_fault.ensures
    ∙ sym (spaced_refusal c.args.mask (parts_of c.args.text.now) c.in-Err.fault (sym c.any_turn.ensures ∙ c.in-Err.is))
