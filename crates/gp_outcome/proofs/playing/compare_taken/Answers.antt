use Rattle.std.proofs.Common.{◌≡◌, Err, rules}
use Rattle.gp_replay.specs.declared.fault.PlayFault.TheVariants as faults
use Rattle.gp_outcome.proofs.PlayingLemmas.{stopped_other}
use Rattle.gp_outcome.proofs.playing.compare_taken.Goals as goal

pub returns-in-Some : goal.returns-in-Some
returns-in-Some g c =
    let stopped : c.args.played ≡ Err faults.Write = search rules in
    record { compares = stopped_other _ _ _ _ _ stopped c.in-Some.is c.in_ok-stop-in-Err-Write.ensures.differs; err = tt }
