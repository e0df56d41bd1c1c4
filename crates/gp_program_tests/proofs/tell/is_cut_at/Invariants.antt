use Rattle.std.proofs.Common.{None}
use Rattle.gp_program_tests.proofs.tell.is_cut_at.Given as goal

abbrev pub ghosts-told_by : goal.ghosts-told_by
ghosts-told_by a = record { held = None; manner = a.telling }
