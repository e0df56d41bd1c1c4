use Rattle.std.proofs.Common.{Some}
use Rattle.gp_program_tests.proofs.tell.told.Given as goal

abbrev pub ghosts-told_by : goal.ghosts-told_by
ghosts-told_by a = record { held = Some a.writer.items; manner = a.telling }
