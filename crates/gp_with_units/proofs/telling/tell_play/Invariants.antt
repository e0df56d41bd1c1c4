-- the teller begins with what it tells by, over what the writer holds
use Rattle.gp_with_units.proofs.telling.tell_play.Given as goal

abbrev pub ghosts-play_by : goal.ghosts-play_by
ghosts-play_by g a = record { held = g.W.Write.contents a.writer; manner = a.telling }
