-- what is expected is what the source gives
use Rattle.gp_outcome.proofs.playing.compare_play.Given as goal

abbrev pub ghosts-compare_by : goal.ghosts-compare_by
ghosts-compare_by g a = record { expected = a.expected.remaining }
