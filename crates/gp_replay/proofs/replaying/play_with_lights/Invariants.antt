-- the new ledger is the one whose name the player and its licences have
use Rattle.gp_replay.proofs.replaying.play_with_lights.Given as goal

abbrev pub ghosts-play_on : goal.ghosts-play_on
ghosts-play_on g a = record { name = a.blank.name; parts = 4064 }
