-- what is expected is what the source gives
use Rattle.gp_compare.proofs.texts.compare_text.Given as goal

abbrev pub ghosts-compare_by : goal.ghosts-compare_by
ghosts-compare_by g a = record { expected = a.expected.remaining }
