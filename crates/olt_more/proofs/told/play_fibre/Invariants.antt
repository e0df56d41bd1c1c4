-- the teller begins with what it tells by, over a digest, of which no contract tells what it holds
use Rattle.std.proofs.Common.{None}
use Rattle.olt_more.proofs.told.play_fibre.Given as goal

abbrev pub ghosts-replay_by : goal.ghosts-replay_by
ghosts-replay_by a = record { held = None; manner = a.telling }
