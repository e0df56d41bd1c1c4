use Rattle.std.proofs.Common.{refl}
use Rattle.oltctl.specs.Statuses.{refused, served, idle}
use Rattle.oltctl.proofs.run_words.Goals as goal

pub returns-in-Some-clause-ended : goal.returns-in-Some-clause-ended
returns-in-Some-clause-ended g c = served c.in-Ok.matches c.in-Some.request c.in-Ok.ensures.parsed c.in-Some.ensures.asks c.serve.ensures.served

pub returns-in-Ok-clause-ended : goal.returns-in-Ok-clause-ended
returns-in-Ok-clause-ended g c = idle c.in-Ok.matches c.in-Ok.ensures.parsed c.in-None.ensures.nothing refl

pub returns-clause-ended : goal.returns-clause-ended
returns-clause-ended g c = refused _ c.in-Err.ensures.fault c.refuse.ensures
