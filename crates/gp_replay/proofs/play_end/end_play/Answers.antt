use Rattle.std.proofs.Common.{◌≡◌, Result, Err, refl, rules, subst, sym}
use Rattle.gp_replay.specs.declared.fault.PlayFault.{PlayFault}
use Rattle.gp_replay.specs.declared.fault.PlayFault.TheVariants.{OutOfMemory}
use Rattle.gp_replay.specs.Writing.{EndsPlay}
use Rattle.gp_replay.proofs.play_end.end_play.Goals as goal

pub returns-in-Err-OutOfMemory : goal.returns-in-Err-OutOfMemory
returns-in-Err-OutOfMemory g c =
    let refused : c.args.played ≡ Err OutOfMemory = search rules in
    subst (λ (o : Result (Unit {0}) PlayFault). EndsPlay c.args.sink.now c.finish-in-Err-OutOfMemory.new.self o (Err OutOfMemory)) (sym refused)
    (refl, c.finish-in-Err-OutOfMemory.result, c.finish-in-Err-OutOfMemory.ensures)
