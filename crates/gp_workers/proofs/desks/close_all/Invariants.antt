use Rattle.std.proofs.Common.{◌≡◌, ◌≤◌, ◌+◌, ◌++◌, List, vec_len}
use Rattle.std.specs.Prelude.{sum_by, vec_capacity}
use Rattle.gp_journal.specs.Kept.{Kept}
use Rattle.gp_workers.specs.Closing.{AreJournalsOf, desk_rows}
use Rattle.gp_workers.proofs.desks.close_all.Given as goal

abbrev pub invariant-loop-desks : goal.invariant-loop-desks
invariant-loop-desks g l = record {
  journals : (rest : List Kept) → AreJournalsOf l.desks.items rest → AreJournalsOf l.initial.desks.items (l.journals.items ++ rest);
  licences : l.book.free + sum_by desk_rows l.desks.items ≡ l.initial.book.free + sum_by desk_rows l.initial.desks.items;
  room : vec_len l.desks + vec_len l.journals ≤ vec_capacity l.journals;
}

abbrev pub decreases-loop-desks : goal.decreases-loop-desks
decreases-loop-desks g l = vec_len l.desks
