use Rattle.std.proofs.Common.{◌≡◌, List, ℕ, true, ◌++◌, sym, ap, ◌∙◌, rules}
use Rattle.gp_serial.specs.Spelling.{has_vendor_code}
use Rattle.gp_serial.proofs.SpellingLemmas.{read-number, read_as}
use Rattle.gp_serial.proofs.reading.read_vendor_form.Goals as goal

pub returns-in-Ok : goal.returns-in-Ok
returns-in-Ok c =
    let characters : has_vendor_code c.args.text.now ≡ true = search rules in
    sym (
    read-number c.args.text.now c.split_at.result.1.now _ c.requires characters c.split_at.ensures.back c.in-Ok.ensures
    ∙ ap read_as (sym (c.joined.ensures ∙ ap (λ (xs : List ℕ). xs ++ c.in-Ok.number) c.split_at.ensures.front))
    )

pub returns-in-Err : goal.returns-in-Err
returns-in-Err c =
    let characters : has_vendor_code c.args.text.now ≡ true = search rules in
    sym (read-number c.args.text.now c.split_at.result.1.now _ c.requires characters c.split_at.ensures.back c.in-Err.ensures)
