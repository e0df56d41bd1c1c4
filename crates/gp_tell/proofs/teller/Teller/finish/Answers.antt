use Rattle.std.proofs.Common.{refl}
use Rattle.gp_tell.proofs.TellerLemmas.{finished_part, finishes_err, runs_of}
use Rattle.gp_tell.proofs.teller.Teller.finish.Goals as goal

pub invariant_of-self-in-Err : goal.invariant_of-self-in-Err
invariant_of-self-in-Err g c =
    let runs = runs_of _ _ _ _ _ _ _ _ c.in_default.is c.self.invariant.0 in
    (finished_part _ _ _ _ _ _ _ _ c.in-Err.field-0 runs c.in-Err.ensures, c.self.invariant.1)

pub returns-in-Err : goal.returns-in-Err
returns-in-Err g c =
    let runs = runs_of _ _ _ _ _ _ _ _ c.in_default.is c.self.invariant.0 in
    finishes_err _ _ _ _ _ _ refl c.self.view_is c.in_default.is refl (finished_part _ _ _ _ _ _ _ _ c.in-Err.field-0 runs c.in-Err.ensures) refl
