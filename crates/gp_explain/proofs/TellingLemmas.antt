-- Lines that are told one after another.
use Rattle.std.proofs.Common.{◌≡◌, ℕ, List, Result, Ok, Err, OnOk, inr, refl}
use Rattle.gp_explain.specs.Telling.{Manner, TellsOneLine, other_told}
use Rattle.gp_explain.proofs.ServingLemmas.{IsUncut}

-- a line that is none of a trace
pub passed : {E : Type 0} (r : Result (Unit {0}) E) (manner : Manner) (text said : List ℕ) → IsUncut text → OnOk r (said ≡ other_told manner text) → OnOk r (TellsOneLine manner text said manner)
passed (Ok x) manner text said uncut same = inr (λ is. uncut is.0 is.1 is.2 is.3 is.4, same, refl)
passed (Err e) manner text said uncut same = tt
