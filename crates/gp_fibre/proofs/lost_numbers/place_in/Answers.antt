use Rattle.std.proofs.Common.{Ok, Err, arith}
use Rattle.std.proofs.lemmas.List.Sorted.{searched}
use Rattle.gp_fibre.proofs.LostLemmas.{found_at, placed_at}
use Rattle.gp_fibre.proofs.lost_numbers.place_in.Goals as goal

pub returns-in-Ok : goal.returns-in-Ok
returns-in-Ok c =
    let found = searched c.args.ordered.now c.args.number (Ok c.in-Ok.place) c.in-Ok.ensures.position (λ i j. c.requires i j 0) in
    found_at c.args.ordered.now c.args.number c.in-Ok.place found.0 found.1

pub returns-in-Err : goal.returns-in-Err
returns-in-Err c =
    let missing = searched c.args.ordered.now c.args.number (Err c.in-Err.place) c.in-Err.ensures.position (λ i j. c.requires i j 0) in
    placed_at c.args.ordered.now c.args.number c.in-Err.place c.requires missing.1 (λ k from within. let low = missing.2 k from within in omega arith)
