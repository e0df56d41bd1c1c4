use Rattle.std.proofs.Common.{rules, ◌≡◌, length, drop, sym}
use Rattle.std.proofs.lemmas.List.{take_at}
use Rattle.gp_workers.proofs.Closings.{pieces_ending, pieces_histories}
use Rattle.gp_workers.proofs.closing.Opened.cut_with.Goals as goal

pub returns-clause-ending : goal.returns-clause-ending
returns-clause-ending g c =
    let totals = rw c.as_slice.ensures.value at c.of_desks-totals.ensures in
    pieces_ending _ c.args.self.desks.items _ _ c.requires.adds_up.configured c.cut_all-ports.ensures.pieces totals

pub returns-clause-histories : goal.returns-clause-histories
returns-clause-histories g c = pieces_histories _ _ c.cut_all-ports.ensures.pieces

pub returns-clause-forgotten : goal.returns-clause-forgotten
returns-clause-forgotten g c =
    let count : c.args.self.workers.len ≡ length c.clear_all.new.workers = search rules in
    rw (take_at c.clear_all.new.workers (drop (length c.clear_all.new.workers) c.args.self.workers.items) c.args.self.workers.len (sym count)) (c.clear_all.ensures, search rules)
