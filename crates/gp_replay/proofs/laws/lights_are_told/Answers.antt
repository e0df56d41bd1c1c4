use Rattle.gp_replay.specs.Playing.{chassis_playing, fibre_playing}
use Rattle.gp_replay.proofs.LightLemmas.{told_plays, told_with_lights, unlit_text}
use Rattle.gp_replay.proofs.laws.lights_are_told.Goals as goal
use Rattle.std.proofs.Common.{false, true}

pub returns-clause-chassis : goal.returns-clause-chassis
returns-clause-chassis c = λ mask es old new rs text h.
    (told_plays true mask chassis_playing es old new rs text h, told_with_lights mask chassis_playing es old new rs text h)

pub returns-clause-fibre : goal.returns-clause-fibre
returns-clause-fibre c = λ mask es old new rs text h.
    (told_plays true mask fibre_playing es old new rs text h, told_with_lights mask fibre_playing es old new rs text h)

pub returns-clause-chassis_trace : goal.returns-clause-chassis_trace
returns-clause-chassis_trace c = λ mask es old new rs text h.
    (told_plays false mask chassis_playing es old new rs text h, unlit_text mask chassis_playing es old new rs text h)

pub returns-clause-fibre_trace : goal.returns-clause-fibre_trace
returns-clause-fibre_trace c = λ mask es old new rs text h.
    (told_plays false mask fibre_playing es old new rs text h, unlit_text mask fibre_playing es old new rs text h)
