use Rattle.std.proofs.Common.{◌≡◌, length, map, sym, ap, subst, ◌∙◌}
use Rattle.hear_rules.specs.Units as units
use Rattle.hear_notes.specs.Grants.{Book, SameGrants, grants_of, marked}
use Rattle.hear_notes.proofs.Granting.{answered_is, by_asking, length-marked, notes_mark, notes_search, on_ok, written}
use Rattle.hear_notes.proofs.grants.GrantBook.note.Goals as goal

pub returns-in-Some-clause-notes : goal.returns-in-Some-clause-notes
returns-in-Some-clause-notes c =
    let q = c.self.inside in
    let book : Book = record { kept = q.kept.items; count = q.count; lost = q.lost; searched = q.searched } in
    let new : Book = record { kept = q.kept.items; count = q.count; lost = q.lost; searched = c.put.new.self } in
    let asked = sym c.in-Some.is ∙ c.asking.ensures in
    let told = ap (by_asking (grants_of book) c.args.number) asked ∙ answered_is (grants_of book) c.args.number c.args.message.now in
    let here = told ∙ ap (λ (b : Book). units.answered_by (grants_of b) c.args.number c.args.message.now) c.self.view_is in
    on_ok c.put.result (λ put. subst (SameGrants (grants_of new)) here (notes_search book c.args.number c.in-Some.serial c.put.new.self put)) c.put.ensures.put

pub returns-in-None-clause-notes : goal.returns-in-None-clause-notes
returns-in-None-clause-notes c =
    let q = c.self.inside in
    let book : Book = record { kept = q.kept.items; count = q.count; lost = q.lost; searched = q.searched } in
    let asked = sym c.in-None.is ∙ c.asking.ensures in
    let told = ap (by_asking (grants_of book) c.args.number) asked ∙ answered_is (grants_of book) c.args.number c.args.message.now in
    let here = told ∙ ap (λ (b : Book). units.answered_by (grants_of b) c.args.number c.args.message.now) c.self.view_is in
    let now : c.mark.new.kept ≡ map (marked c.args.number) q.kept.items = c.mark.ensures ∙ ap (map (marked c.args.number)) c.as_mut_slice.ensures.value in
    let long = ap length now ∙ length-marked c.args.number q.kept.items in
    let kept = written q.kept.items c.mark.new.kept long ∙ now in
    subst (SameGrants _) here (notes_mark book c.args.number _ kept)
