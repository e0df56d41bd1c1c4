-- the teller begins with what it tells by, over what the writer holds
use Rattle.gp_with_units.proofs.explaining.explain_with_units.Given as goal

abbrev pub ghosts-explain_told : goal.ghosts-explain_told
ghosts-explain_told g a = record { held = g.W.Write.contents a.writer; manner = a.telling }
