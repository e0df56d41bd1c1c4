use Rattle.std.proofs.Common.{Some}
use Rattle.gp_program_tests.proofs.tell.is_replayed_in_words.Given as goal

abbrev pub ghosts-replayed : goal.ghosts-replayed
ghosts-replayed a = record { held = Some a.writer.items; manner = a.telling }
